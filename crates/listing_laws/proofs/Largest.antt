-- A block with the longest listing: 31,421 bytes, the bound of `listing_short`.
use Rattle.std.specs.Prelude.{if◌then◌else◌}
use mathlib.Core.Path.{◌≡◌, refl}
use mathlib.Core.List.{List, [], ◌∷◌, ◌++◌}
use mathlib.Core.Bool.{true}
use mathlib.Core.Option.{some}
use Prim.Native.Nat.{ℕ, zero, suc, ◌+◌, ◌-◌}
use lib.Dec.{ltb}
use lib.IntN.{ℤ, negsuc}
use lib.ListN.{length}
use Rattle.model.specs.Bounds.{listing_limit}
use Rattle.model.specs.Basic.{bytes, tab}
use Rattle.model.specs.Block.{Term, Input, Output, and, Condition, term, two, Rule, Block, block_of}
use Rattle.model.specs.declared.InputType.TheVariants.{Real as real}
use Rattle.model.specs.declared.Pair.TheVariants.{ProdAsum as prod-asum}
use Rattle.model.specs.declared.Accumulation.TheVariants.{Bsum as by-bsum}
use Rattle.model.specs.declared.Activation.TheVariants.{Prod as by-prod}
use Rattle.model.proofs.Opened.{opened}
use Rattle.model.specs.Listing.{listing}
use Rattle.model.specs.WellFormed.{well_formed}

-- names of 16 bytes
abbrev called : ℕ → List ℕ
called k = bytes "name_of_16_byte" ++ ((97 + k) ∷ [])

-- -999999.999 and up, a thousandth apart
abbrev low : ℕ → ℤ
low k = negsuc (999999998 - k)

abbrev long_term : ℕ → Term
long_term k = record { name = called k; points = tab (λ i. record { at = low i; degree = 999000 }) 4 0 }

abbrev long_input : ℕ → Input
long_input k = record { name = called k; type = real; terms = tab long_term 7 0 }

abbrev long_output : ℕ → Output
long_output k =
    record {
      name = called k;
      terms = tab (λ i. record { name = called i; at = low 1 }) 7 0;
      range = some (record { least = low 0; most = low 2 });
      default = some (low 1);
    }

-- n operators, all but the first in parentheses
nested : ℕ → Condition
nested zero = term 0
nested (suc n) = two and (term 0) (nested n)

abbrev long_rule : ℕ → Rule
long_rule k =
    record {
      number = 10000 + k;
      condition = nested (if ltb k 32 then 9 else 0);
      conclusions = tab (λ i. record { output = 0; term = 56 + i }) 2 0;
      weight = 999000;
    }

pub longest : Block
unfolding nested tab
longest =
    block_of (called 0) (tab long_input 8 0) (tab long_output 6 8) (called 0) prod-asum by-prod by-bsum (tab long_rule 64 0)

pub longest_well_formed : well_formed longest ≡ true
unfolding longest opened
longest_well_formed = refl

pub longest_length : length (listing longest) ≡ listing_limit
unfolding longest opened
longest_length = refl
