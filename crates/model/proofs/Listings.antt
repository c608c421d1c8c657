-- Listings: numbers without needless zeros, the lines of an output, and what the listing program prints.
use mathlib.Core.List.{[], ◌∷◌, map}
use mathlib.Core.Option.{Option, none, some}
use mathlib.Core.Path.{◌≡◌, refl}
use lib.IntN.{ℤ, pos, negsuc}
use Rattle.model.specs.Basic.{bytes}
use Rattle.model.specs.Block.{Range, Output}
use Rattle.model.specs.Listing.{digits, crisp_text, unit_text, defuzzify_text}
use Rattle.model.specs.Printed.{refused_line, printed}
use Rattle.model.proofs.Opened.{opened}

-- NUMBERS
crisp_texts :
    map crisp_text
    (pos 0 ∷ pos 500 ∷ negsuc 499 ∷ pos 4050 ∷ pos 10100 ∷ pos 100000 ∷ pos 1 ∷ negsuc 0 ∷ pos 120 ∷ negsuc 1004 ∷ pos 7010 ∷ pos 99999
    ∷ pos 1000000000 ∷ negsuc 999999999 ∷ [])
    ≡ map bytes
    ("0" ∷ "0.5" ∷ "-0.5" ∷ "4.05" ∷ "10.1" ∷ "100" ∷ "0.001" ∷ "-0.001" ∷ "0.12" ∷ "-1.005" ∷ "7.01" ∷ "99.999"
    ∷ "1000000" ∷ "-1000000" ∷ [])
unfolding opened
crisp_texts = refl

unit_texts : map unit_text (0 ∷ 1000 ∷ 50000 ∷ 500000 ∷ 250000 ∷ 999000 ∷ 1000000 ∷ [])
    ≡ map bytes ("0" ∷ "0.001" ∷ "0.05" ∷ "0.5" ∷ "0.25" ∷ "0.999" ∷ "1" ∷ [])
unfolding opened
unit_texts = refl

rule_numbers : map digits (1 ∷ 9 ∷ 10 ∷ 11 ∷ 99 ∷ 100 ∷ 65535 ∷ []) ≡ map bytes ("1" ∷ "9" ∷ "10" ∷ "11" ∷ "99" ∷ "100" ∷ "65535" ∷ [])
unfolding opened
rule_numbers = refl

-- AN OUTPUT: RANGE before its terms, METHOD and DEFAULT behind them
abbrev output : Option Range → Option ℤ → Output
output g d = record {
  name = bytes "z";
  terms = record { name = bytes "k"; at = pos 4050 } ∷ record { name = bytes "j"; at = pos 0 } ∷ [];
  range = g;
  default = d;
}

output_lines : defuzzify_text (output (some (record { least = negsuc 499; most = pos 10100 })) (some (pos 500))) ∷ defuzzify_text (output none none) ∷ []
    ≡ map bytes
    ("DEFUZZIFY z\n  RANGE(-0.5..10.1);\n  TERM k := 4.05;\n  TERM j := 0;\n  METHOD : CoGS;\n  DEFAULT := 0.5;\nEND_DEFUZZIFY\n"
    ∷ "DEFUZZIFY z\n  TERM k := 4.05;\n  TERM j := 0;\n  METHOD : CoGS;\n  DEFAULT := NC;\nEND_DEFUZZIFY\n" ∷ [])
unfolding opened
output_lines = refl

-- THE PROGRAM
prints_refusals : map (λ w. printed (bytes w)) ("" ∷ "FUNCTION_BLOCK VAR" ∷ "FUNCTION_BLOCK f VAR_INPUT a, a: REAL;" ∷ "  (*)" ∷ [])
    ≡ map bytes ("refused 2 at 0\n" ∷ "refused 2 at 15\n" ∷ "refused 4 at 30\n" ∷ "refused 2 at 2\n" ∷ [])
unfolding opened
prints_refusals = refl

prints_places : refused_line 10 (some 31421) ∷ refused_line 11 none ∷ [] ≡ map bytes ("refused 10 at 31421\n" ∷ "refused 11 at none\n" ∷ [])
unfolding opened
prints_places = refl
