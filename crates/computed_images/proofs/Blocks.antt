-- Blocks that an image may hold, and blocks that it may not: each of these is wrong in one thing only.
use mathlib.Core.List.{List, [], ◌∷◌, ◌++◌, map}
use mathlib.Core.Option.{Option, none, some}
use mathlib.Core.Path.{◌≡◌, refl}
use Prim.Native.Nat.{ℕ, zero, suc}
use Prim.Native.String.{String}
use lib.IntN.{ℤ, pos, negsuc}
use lib.ListN.{length}
use Rattle.model.specs.Basic.{bytes, total}
use Rattle.model.specs.Block.{Point, Term, Singleton, Input, Range, Output, Condition, term, neg, two, and, or, Conclusion, Rule, Block, block_of, with_name, with_rule_block, size}
use Rattle.model.specs.declared.InputType.TheVariants.{Real as real, Int as int}
use Rattle.model.specs.declared.Pair.TheVariants.{BdifBsum as bdif-bsum}
use Rattle.model.specs.declared.Activation.TheVariants.{Prod as by-prod}
use Rattle.model.specs.declared.Accumulation.TheVariants.{Bsum as by-bsum}
use Rattle.model.specs.Outcome.{accepted, refused}
use Rattle.model.specs.WellFormed.{well_formed}
use Rattle.model.specs.Image.{image, loads}
use Rattle.model.proofs.Opened.{opened}
use Rattle.model.proofs.Texts.{true_all, false_all, numbers_from}

-- PIECES
abbrev at : ℤ → ℕ → Point
at x d = record { at = x; degree = d }

abbrev named : String → List Point → Term
named w ps = record { name = bytes w; points = ps }

abbrev ramp : String → Term
ramp w = named w (at (pos 0) 0 ∷ at (pos 1000) 1000000 ∷ [])

abbrev input : String → List Term → Input
input w ts = record { name = bytes w; type = real; terms = ts }

abbrev single : String → ℤ → Singleton
single w x = record { name = bytes w; at = x }

abbrev output : String → List Singleton → Option Range → Option ℤ → Output
output w ss g d = record { name = bytes w; terms = ss; range = g; default = d }

abbrev span : ℤ → ℤ → Option Range
span x y = some (record { least = x; most = y })

abbrev rule : ℕ → Condition → List Conclusion → ℕ → Rule
rule n c ks w = record { number = n; condition = c; conclusions = ks; weight = w }

abbrev concludes : ℕ → ℕ → Conclusion
concludes o t = record { output = o; term = t }

-- names of one letter, from `a` on
abbrev letters : {A : Type 0} → (List ℕ → A) → ℕ → List A
letters f n = map (λ c. f (c ∷ [])) (numbers_from n 97)

-- A GOOD BLOCK, by its inputs, by its outputs, by its rules
abbrev stored : List Input → List Output → List Rule → Block
stored is os rs = block_of (bytes "f") is os (bytes "r") bdif-bsum by-prod by-bsum rs

abbrev good_input : Input
good_input = input "a" (ramp "t" ∷ ramp "u" ∷ [])

abbrev good_output : Output
good_output = output "y" (single "k" (negsuc 999) ∷ single "m" (pos 2000) ∷ []) (span (negsuc 999) (pos 2000)) (some (pos 0))

abbrev good_outputs : List Output
good_outputs = good_output ∷ output "z" (single "k" (pos 5000) ∷ []) none none ∷ []

-- the first term of the first output stands behind those of the inputs
abbrev of_inputs : List Input → Block
of_inputs is = stored is good_outputs (rule 1 (term 0) (concludes 0 (total (λ v. length v.terms) is) ∷ []) 1000000 ∷ [])

abbrev of_input : Input → Block
of_input v = of_inputs (v ∷ [])

abbrev of_points : List Point → Block
of_points ps = of_input (input "a" (named "t" ps ∷ []))

abbrev of_outputs : List Output → Block
of_outputs os = stored (good_input ∷ []) os (rule 1 (term 0) (concludes 0 2 ∷ []) 1000000 ∷ [])

abbrev of_output : Output → Block
of_output v = of_outputs (v ∷ [])

-- input terms 0 and 1; terms 2 and 3 of output 0, term 4 of output 1
abbrev of_rules : List Rule → Block
of_rules rs = stored (good_input ∷ []) good_outputs rs

abbrev of_condition : Condition → Block
of_condition c = of_rules (rule 1 c (concludes 0 2 ∷ []) 1000000 ∷ [])

abbrev of_conclusion : ℕ → ℕ → Block
of_conclusion o t = of_rules (rule 1 (term 0) (concludes 0 2 ∷ concludes o t ∷ []) 1000000 ∷ [])

abbrev of_rule : ℕ → ℕ → Block
of_rule n w = of_rules (rule n (term 1) (concludes 1 4 ∷ []) w ∷ [])

-- a NOT on top n times: all but two of them with a parenthesis
abbrev nots : ℕ → Condition
nots zero = term 0
nots (suc n) = neg (nots n)

-- n operators, each behind a parenthesis but the first
abbrev nested : ℕ → Condition
nested zero = term 1
nested (suc n) = two and (term 0) (nested n)

-- GOOD: at each bound
abbrev good : List Block
good =
    of_inputs (good_input ∷ record { name = bytes "n"; type = int; terms = ramp "t" ∷ [] } ∷ [])
    ∷ of_inputs (letters (λ w. record { name = w; type = int; terms = ramp "t" ∷ [] }) 8)
    ∷ of_input (record { name = bytes "abcdefghijklmnop"; type = real; terms = letters (λ w. record { name = w; points = (ramp "t").points }) 7 })
    ∷ of_points (at (negsuc 999999999) 0 ∷ at (pos 0) 1000 ∷ at (pos 1) 999000 ∷ at (pos 1000000000) 1000000 ∷ [])
    ∷ of_points (at (pos 5) 0 ∷ at (pos 5) 1000000 ∷ at (pos 7) 1000000 ∷ at (pos 7) 0 ∷ []) ∷ of_points (at (pos 0) 0 ∷ at (pos 0) 1000000 ∷ [])
    ∷ of_points (at (pos 0) 0 ∷ at (pos 5) 1000000 ∷ at (pos 5) 0 ∷ at (pos 9) 0 ∷ [])
    ∷ of_outputs (letters (λ w. record { name = 95 ∷ w; terms = single "k" (pos 0) ∷ []; range = none; default = some (pos 1000000000) }) 6)
    ∷ of_output (record { name = bytes "y"; terms = letters (λ w. record { name = w; at = negsuc 0 }) 7; range = none; default = none })
    ∷ of_output (output "y" (single "k" (pos 1000000000) ∷ single "m" (negsuc 999999999) ∷ []) (span (negsuc 999999999) (pos 1000000000)) (some (pos 0)))
    ∷ of_output (output "y" (single "k" (negsuc 4) ∷ []) (span (negsuc 4) (pos 5)) (some (negsuc 4)))
    ∷ of_output (output "y" (single "k" (pos 5) ∷ []) (span (negsuc 4) (pos 5)) (some (pos 5)))
    ∷ of_output (output "y" (single "k" (pos 0) ∷ []) (span (negsuc 0) (pos 0)) (some (pos 0)))
    ∷ of_condition (nots 10) ∷ of_condition (nested 9) ∷ of_condition (two or (nested 8) (nots 10))
    ∷ of_conclusion 0 3 ∷ of_conclusion 1 4 ∷ of_conclusion 0 2
    ∷ of_rule 1 0 ∷ of_rule 65535 1000 ∷ of_rule 256 1000000
    ∷ []

good_well_formed : map well_formed good ≡ true_all good
unfolding opened
good_well_formed = refl

-- an image stands for its block
good_loads : map (λ b. loads (image b)) good ≡ map accepted good
unfolding opened
good_loads = refl

-- BAD
abbrev bad_names : List Block
bad_names =
    with_name (bytes "1f") (of_rule 1 0) ∷ with_name [] (of_rule 1 0) ∷ with_rule_block (bytes "r_") (of_rule 1 0) ∷ with_rule_block (114 ∷ 228 ∷ []) (of_rule 1 0)
    ∷ of_inputs (good_input ∷ input "NOT" (ramp "t" ∷ []) ∷ []) ∷ of_inputs (good_input ∷ input "a" (ramp "t" ∷ []) ∷ [])
    ∷ of_inputs (good_input ∷ input "b" (ramp "t" ∷ []) ∷ input "a" (ramp "t" ∷ []) ∷ [])
    ∷ of_inputs (good_input ∷ input "y" (ramp "t" ∷ []) ∷ []) ∷ of_inputs (good_input ∷ input "z" (ramp "t" ∷ []) ∷ [])
    ∷ of_input (input "a" (ramp "t t" ∷ [])) ∷ of_input (input "a" (ramp "t" ∷ ramp "t" ∷ []))
    ∷ of_input (input "a" (ramp "t" ∷ ramp "u" ∷ ramp "t" ∷ []))
    ∷ of_output (output "y__" (single "k" (pos 0) ∷ []) none none) ∷ of_outputs (good_output ∷ good_output ∷ [])
    ∷ of_outputs (good_output ∷ output "z" (single "k" (pos 0) ∷ []) none none ∷ good_output ∷ [])
    ∷ of_output (output "y" (single "LM" (pos 0) ∷ []) none none) ∷ of_output (output "y" (single "k" (pos 0) ∷ single "k" (pos 1) ∷ []) none none)
    ∷ of_output (output "y" (single "k" (pos 0) ∷ single "m" (pos 0) ∷ single "k" (pos 1) ∷ []) none none)
    ∷ []

bad_names_lem : map well_formed bad_names ≡ false_all bad_names
unfolding opened
bad_names_lem = refl

-- counts of inputs, outputs, terms, points; positions and degrees of points
abbrev bad_variables : List Block
bad_variables =
    of_inputs (letters (λ w. record { name = w; type = real; terms = ramp "t" ∷ [] }) 9)
    ∷ of_inputs (good_input ∷ input "b" [] ∷ [])
    ∷ of_input (record { name = bytes "a"; type = real; terms = letters (λ w. record { name = w; points = (ramp "t").points }) 8 })
    ∷ of_outputs (letters (λ w. record { name = 95 ∷ w; terms = single "k" (pos 0) ∷ []; range = none; default = none }) 7)
    ∷ of_outputs (good_output ∷ output "z" [] none none ∷ [])
    ∷ of_output (record { name = bytes "y"; terms = letters (λ w. record { name = w; at = pos 0 }) 8; range = none; default = none })
    ∷ of_points [] ∷ of_points (at (pos 0) 0 ∷ [])
    ∷ of_points (at (pos 0) 0 ∷ at (pos 1) 0 ∷ at (pos 2) 0 ∷ at (pos 3) 0 ∷ at (pos 4) 0 ∷ [])
    ∷ of_points (at (pos 0) 0 ∷ at (negsuc 0) 1000000 ∷ []) ∷ of_points (at (pos 0) 0 ∷ at (pos 0) 1000000 ∷ at (pos 0) 0 ∷ [])
    ∷ of_points (at (pos 0) 0 ∷ at (pos 5) 0 ∷ at (pos 3) 1000000 ∷ []) ∷ of_points (at (pos 0) 0 ∷ at (pos 5) 0 ∷ at (pos 5) 0 ∷ at (pos 5) 0 ∷ [])
    ∷ of_points (at (pos 0) 0 ∷ at (pos 5) 0 ∷ at (pos 5) 0 ∷ at (pos 4) 0 ∷ []) ∷ of_points (at (pos 0) 0 ∷ at (pos 5) 0 ∷ at (pos 6) 0 ∷ at (pos 5) 0 ∷ [])
    ∷ of_points (at (pos 0) 0 ∷ at (pos 1000000001) 0 ∷ []) ∷ of_points (at (negsuc 1000000000) 0 ∷ at (pos 0) 0 ∷ [])
    ∷ of_points (at (pos 0) 1001000 ∷ at (pos 1) 0 ∷ []) ∷ of_points (at (pos 0) 0 ∷ at (pos 1) 999999 ∷ []) ∷ of_points (at (pos 0) 1 ∷ at (pos 1) 0 ∷ [])
    ∷ []

bad_variables_lem : map well_formed bad_variables ≡ false_all bad_variables
unfolding opened
bad_variables_lem = refl

-- RANGE with min not below max or outside the crisp bounds; a singleton or a default outside RANGE or the crisp bounds
abbrev bad_figures : List Block
bad_figures =
    of_output (output "y" (single "k" (pos 7) ∷ []) (span (pos 7) (pos 7)) none)
    ∷ of_output (output "y" (single "k" (pos 7) ∷ []) (span (pos 8) (pos 7)) none)
    ∷ of_output (output "y" (single "k" (pos 7) ∷ []) (span (negsuc 1000000000) (pos 8)) none)
    ∷ of_output (output "y" (single "k" (pos 7) ∷ []) (span (pos 0) (pos 1000000001)) none)
    ∷ of_output (output "y" (single "k" (pos 8) ∷ single "m" (negsuc 0) ∷ []) (span (pos 0) (pos 8)) none)
    ∷ of_output (output "y" (single "k" (pos 8) ∷ single "m" (pos 9) ∷ []) (span (pos 0) (pos 8)) none)
    ∷ of_output (output "y" (single "k" (pos 1000000001) ∷ []) none none)
    ∷ of_output (output "y" (single "k" (negsuc 1000000000) ∷ []) none none)
    ∷ of_output (output "y" (single "k" (pos 8) ∷ []) (span (pos 0) (pos 8)) (some (negsuc 0)))
    ∷ of_output (output "y" (single "k" (pos 8) ∷ []) (span (pos 0) (pos 8)) (some (pos 9)))
    ∷ of_output (output "y" (single "k" (pos 8) ∷ []) none (some (pos 1000000001)))
    ∷ of_output (output "y" (single "k" (pos 8) ∷ []) none (some (negsuc 1000000000)))
    ∷ []

bad_figures_lem : map well_formed bad_figures ≡ false_all bad_figures
unfolding opened
bad_figures_lem = refl

-- rule numbers and weights; a term that no input has; nine parentheses; no conclusion, a term of another output or of an input
abbrev bad_rules : List Block
bad_rules =
    of_rules [] ∷ of_rule 0 0 ∷ of_rule 65536 0 ∷ of_rule 1 1001000 ∷ of_rule 1 500 ∷ of_rule 1 1
    ∷ of_rules (rule 1 (term 0) (concludes 0 2 ∷ []) 0 ∷ rule 2 (term 0) (concludes 0 2 ∷ []) 0 ∷ rule 1 (term 0) (concludes 0 2 ∷ []) 0 ∷ [])
    ∷ of_condition (term 2) ∷ of_condition (neg (term 2)) ∷ of_condition (two and (term 2) (term 0)) ∷ of_condition (two or (term 0) (term 2))
    ∷ of_condition (nots 11) ∷ of_condition (nested 10) ∷ of_condition (two or (nots 11) (term 0)) ∷ of_condition (two or (term 0) (nots 11))
    ∷ of_rules (rule 1 (term 0) [] 0 ∷ [])
    ∷ of_conclusion 0 4 ∷ of_conclusion 0 1 ∷ of_conclusion 1 3 ∷ of_conclusion 1 5 ∷ of_conclusion 2 5 ∷ of_conclusion 2 4
    ∷ []

bad_rules_lem : map well_formed bad_rules ≡ false_all bad_rules
unfolding opened
bad_rules_lem = refl

abbrev bad : List Block
bad = bad_names ++ (bad_variables ++ (bad_figures ++ bad_rules))

bad_refused : map (λ b. loads (image b)) bad ≡ map (λ b. refused 11 none) bad
unfolding opened
bad_refused = refl

-- THE RULES IN ALL: 64 rules, 640 condition words, 128 conclusions, in one rule and over two
abbrev chain : ℕ → Condition
chain zero = term 0
chain (suc n) = two and (chain n) (term 0)

abbrev again : {A : Type 0} → ℕ → A → List A
again zero x = []
again (suc n) x = x ∷ again n x

abbrev counted : ℕ → List Rule
counted n = map (λ k. rule k (term 0) (concludes 0 2 ∷ []) 0) (numbers_from n 1)

abbrev two_rules : Condition → ℕ → ℕ → Block
two_rules c m n = of_rules (rule 1 c (again m (concludes 0 2)) 0 ∷ rule 2 (term 0) (again n (concludes 0 3)) 0 ∷ [])

chain_sizes : map size (chain 319 ∷ neg (chain 319) ∷ chain 320 ∷ []) ≡ 639 ∷ 640 ∷ 641 ∷ []
unfolding opened
chain_sizes = refl

abbrev full : List Block
full = of_rules (counted 64) ∷ of_condition (neg (chain 319)) ∷ two_rules (chain 319) 64 64 ∷ two_rules (term 0) 127 1 ∷ []

full_well_formed : map well_formed full ≡ true_all full
unfolding opened
full_well_formed = refl

abbrev overfull : List Block
overfull = of_rules (counted 65) ∷ of_condition (chain 320) ∷ two_rules (neg (chain 319)) 1 1 ∷ two_rules (term 0) 129 1 ∷ two_rules (term 0) 64 65 ∷ []

overfull_refused : map well_formed overfull ≡ false_all overfull
unfolding opened
overfull_refused = refl
