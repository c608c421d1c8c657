-- A helper: tables of entries that begin with a name of four words, and names that differ, by their words without case.
-- `distinct_names` and `joined_names` tie them to model's `same_name` and `distinct`.
use Rattle.std.specs.Prelude.{Bool, not, List, ℕ, ◌+◌, ◌*◌, ◌/◌, ◌%◌}
use Rattle.model.specs.Basic.{all, tab}

-- the four words of entry i of a table from place o on, s words an entry
abbrev pub words_in : (ℕ → ℕ) → ℕ → ℕ → ℕ → List ℕ
words_in w o s i = tab w 4 (o + i * s)

-- a byte without the bit that tells a small letter from its capital
abbrev pub caseless : ℕ → ℕ
caseless c = c % 32 + c / 64 * 64

-- a word of such bytes
abbrev pub letters_of : ℕ → ℕ
letters_of x =
    caseless (x % 256) + caseless (x / 256 % 256) * 256 + caseless (x / 65536 % 256) * 65536
    + caseless (x / 16777216 % 256) * 16777216

-- all words so: two names are the same but for case where these words of theirs are equal
abbrev pub letters_at : (ℕ → ℕ) → ℕ → ℕ
letters_at w k = letters_of (w k)

-- x is the same as no element
abbrev pub absent : {A : Type 0} → (A → A → Bool) → A → List A → Bool
absent eq x ys = all (λ y. not (eq x y)) ys

-- no element of the first list is the same as one of the second
abbrev pub apart : {A : Type 0} → (A → A → Bool) → List A → List A → Bool
apart eq xs ys = all (λ x. absent eq x ys) xs
