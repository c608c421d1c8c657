-- Blocks while their variables are read: those that are whole, and those that have no more than was declared.
use mathlib.Core.Path.{◌≡◌, refl, sym, ap, ◌∙◌}
use mathlib.Core.List.{List, [], ◌∷◌, ◌++◌, map, append-nil}
use mathlib.Core.Option.{none}
use Prim.Native.Nat.{ℕ}
use lib.ListN.{length, drop}
use lib.Seq.{append_snoc, drop-append_seam, drop-length}
use Rattle.model.specs.Block.{Input, Output, Block, block_of}
use Rattle.model.specs.declared.Pair.TheVariants.{MinMax as min-max}
use Rattle.model.specs.declared.Accumulation.TheVariants.{Max as by-max}
use Rattle.model.specs.declared.Activation.TheVariants.{Min as by-min}
use Rattle.laws.proofs.Finding.{Cut}

-- before the rule block
abbrev pub staged : List ℕ → List Input → List Output → Block
staged n is os = block_of n is os [] min-max by-min by-max []

-- as declared
abbrev pub bare_input : Input → Input
bare_input v = record { name = v.name; type = v.type; terms = [] }

abbrev pub bare_output : Output → Output
bare_output v = record { name = v.name; terms = []; range = none; default = none }

abbrev pub focus : {A : Type 0} (ds : List A) (x : A) (es : List A) → Cut (ds ++ (x ∷ es)) (length ds)
focus ds x es = record { before = ds; mid = x; after = es; split = refl; counted = refl }

-- the elements ds of xs whole, the others bare
abbrev pub partly : {A : Type 0} → (A → A) → List A → List A → List A
partly bare xs ds = ds ++ map bare (drop (length ds) xs)

pub partly_at : {A : Type 0} (bare : A → A) (xs ds es : List A) → xs ≡ ds ++ es → partly bare xs ds ≡ ds ++ map bare es
partly_at {A} bare xs ds es e = ap (λ (l : List A). ds ++ map bare l) (ap (drop (length ds)) e ∙ drop-append_seam ds es)

-- one element more is whole
pub partly_next : {A : Type 0} (bare : A → A) (xs ds : List A) (x : A) (es : List A) → xs ≡ ds ++ (x ∷ es)
    → partly bare xs (ds ++ (x ∷ [])) ≡ ds ++ (x ∷ map bare es)
partly_next bare xs ds x es e =
    partly_at bare xs (ds ++ (x ∷ [])) es (e ∙ sym (append_snoc ds x es)) ∙ append_snoc ds x (map bare es)

pub partly_all : {A : Type 0} (bare : A → A) (xs : List A) → partly bare xs xs ≡ xs
partly_all {A} bare xs = ap (λ (l : List A). xs ++ map bare l) (drop-length xs) ∙ append-nil xs
