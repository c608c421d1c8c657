-- Helpers: the numbers by which keywords are told apart. Case does not count in them. The contract of `keyword_at` ties
-- them to the model's `keyword_at`; `may_not` of proofs/Laws says that a word which may be no keyword is none.
use Rattle.std.specs.Prelude.{◌≡◌, ◌<◌, MatchOption, Bool, List, [], ◌∷◌, ◌++◌, ℕ, ◌+◌, ◌-◌, ◌*◌, ◌/◌, ◌%◌, ◌^◌, eqb, length, take, get_or, if◌then◌else◌}
use Rattle.model.specs.Basic.{index_of}
use Rattle.std.specs.declared.option.Option.{Option}
use Rattle.model.specs.Keywords.{keywords, keyword_at}
use Rattle.keywords.specs.declared.Row.{Row}

-- how many keywords there are, and how long the longest is
abbrev pub keyword_count : ℕ
keyword_count = 43

abbrev pub keyword_limit : ℕ
keyword_limit = 18

-- r is which keyword w is, or none
abbrev pub Which : List ℕ → Option ℕ → Type 0
Which w r = MatchOption r (keyword_count ≡ keyword_at w) (λ k. (k ≡ keyword_at w) × (k < keyword_count))

-- by the length, the first byte and the last
abbrev pub slot_of : List ℕ → ℕ
slot_of w = (length w + 8 * get_or w 0 0 + 152 * get_or w (length w - 1) 0) % 256

-- words of 2, of 3 and of 4 bytes are groups; the others are one
abbrev pub group_of : ℕ → ℕ
group_of n = if eqb n 2 then 2 else if eqb n 3 then 3 else if eqb n 4 then 4 else 5

-- the words of group g, one behind the other
abbrev pub joined : ℕ → List (List ℕ) → List ℕ
joined g [] = []
joined g (k ∷ ks) = if eqb (group_of (length k)) g then k ++ joined g ks else joined g ks

abbrev pub size_of : ℕ → ℕ
size_of i = length (get_or keywords i [])

-- where keyword i begins in the text of its group
abbrev pub start_of : ℕ → ℕ
start_of i = length (joined (group_of (size_of i)) (take i keywords))

abbrev pub row_at : ℕ → Row
row_at i = record { keyword = i; start = start_of i; size = size_of i }

-- the keyword of slot h and its place in that text; where there is none, behind the last, with no bytes
unfoldable pub slot_row : ℕ → Row
slot_row h = row_at (index_of (λ k. eqb h (slot_of k)) keywords)

-- the first letter, A being 1
abbrev pub first_of : List ℕ → ℕ
first_of w = get_or w 0 0 % 32

-- the lengths of the keywords that begin with a letter, a bit for each
abbrev pub rows : List (ℕ × ℕ)
rows =
    (1, 24) ∷ (2, 16) ∷ (3, 24) ∷ (4, 640) ∷ (5, 272512) ∷ (6, 16512) ∷ (9, 12) ∷ (12, 4) ∷ (13, 72) ∷ (14, 28) ∷ (15, 132) ∷ (16, 16) ∷ (18, 564)
    ∷ (20, 16) ∷ (22, 1544) ∷ (23, 16) ∷ []

abbrev pub row_in : List (ℕ × ℕ) → ℕ → ℕ
row_in [] i = 0
row_in (r ∷ rs) i = if eqb i r.0 then r.1 else row_in rs i

-- whether a word of n bytes that begins with letter i may be a keyword
abbrev pub may_be : ℕ → ℕ → Bool
may_be n i = eqb (row_in rows i / 2 ^ n % 2) 1

-- besides T, h is none of these numbers: what a match on h leaves
abbrev pub Others : Type 0 → ℕ → List ℕ → Type 0
Others T h [] = T
Others T h (n ∷ ns) = Others (T × (h ≡ n → ⊥)) h ns
