-- The vocabulary of the other files: choice, bytes of a quoted text, and a few functions on lists.
use Rattle.std.specs.Prelude.{Bool, true, false, ◌&&◌, not, List, [], ◌∷◌, ◌++◌, map, ℕ, zero, suc, ◌+◌, ◌-◌, leb, eqb, if◌then◌else◌}
use Prim.Native.String.{String, [] as nil, ◌∷◌ as ◌::◌}
use Prim.Native.Char.{code}

-- a value handed on to the next step
infixl 10 ◌▸◌
abbrev pub ◌▸◌ : {A B : Type 0} → A → (A → B) → B
a ▸ f = f a

abbrev pub bytes : String → List ℕ
bytes nil = []
bytes (c :: s) = code c ∷ bytes s

-- c is at least a and at most b
abbrev pub between : ℕ → ℕ → ℕ → Bool
between a b c = leb a c && leb c b

abbrev pub is_empty : {A : Type 0} → List A → Bool
is_empty [] = true
is_empty (x ∷ xs) = false

-- all tests of a list pass
unfoldable pub every : List Bool → Bool
every [] = true
every (b ∷ bs) = b && every bs

unfoldable pub all : {A : Type 0} → (A → Bool) → List A → Bool
all f [] = true
all f (x ∷ xs) = f x && all f xs

-- a fact of each element
abbrev pub Each : {A : Type 0} → (A → Type 0) → List A → Type 0
Each P [] = Unit {0}
Each P (x ∷ xs) = P x × Each P xs

-- the sum of f over a list
unfoldable pub total : {A : Type 0} → (A → ℕ) → List A → ℕ
total f [] = 0
total f (x ∷ xs) = f x + total f xs

-- the lists that f gives, one after the other
unfoldable pub gather : {A B : Type 0} → (A → List B) → List A → List B
gather f [] = []
gather f (x ∷ xs) = f x ++ gather f xs

-- n values of f from i on
unfoldable pub tab : {A : Type 0} → (ℕ → A) → ℕ → ℕ → List A
tab f zero i = []
tab f (suc n) i = f i ∷ tab f n (suc i)

-- how many elements stand before the first that passes; all of them where none does
abbrev pub index_of : {A : Type 0} → (A → Bool) → List A → ℕ
index_of f [] = 0
index_of f (x ∷ xs) = elim (f x) [ true ↦ 0 | false ↦ suc (index_of f xs) ]

-- how many elements at the front pass
unfoldable pub run : {A : Type 0} → (A → Bool) → List A → ℕ
run f [] = 0
run f (x ∷ xs) = elim (f x) [ true ↦ suc (run f xs) | false ↦ 0 ]

-- no element is the same as a later one
unfoldable pub distinct : {A : Type 0} → (A → A → Bool) → List A → Bool
distinct eq [] = true
distinct eq (x ∷ xs) = all (λ y. not (eq x y)) xs && distinct eq xs

-- the element at a place changed by f
unfoldable pub update : {A : Type 0} → (A → A) → ℕ → List A → List A
update f i [] = []
update f zero (x ∷ xs) = f x ∷ xs
update f (suc i) (x ∷ xs) = x ∷ update f i xs

-- the last element changed by f
unfoldable pub update_last : {A : Type 0} → (A → A) → List A → List A
update_last f [] = []
update_last f (x ∷ []) = f x ∷ []
update_last f (x ∷ y ∷ xs) = x ∷ update_last f (y ∷ xs)

-- two lists of numbers are equal
abbrev pub same : List ℕ → List ℕ → Bool
same [] [] = true
same [] (y ∷ ys) = false
same (x ∷ xs) [] = false
same (x ∷ xs) (y ∷ ys) = eqb x y && same xs ys

-- a small letter as its capital, any other byte as it is
abbrev pub capital : ℕ → ℕ
capital c = if between 97 122 c then c - 32 else c

abbrev pub capitals : List ℕ → List ℕ
capitals w = map capital w

-- two words are the same but for case
abbrev pub alike : List ℕ → List ℕ → Bool
alike v w = same (capitals v) (capitals w)
