-- At the limits and one past them: texts of 64 rules, 640 condition words and 128 conclusions, in one rule and in all.
use mathlib.Core.List.{List, [], ◌∷◌, ◌++◌}
use mathlib.Core.Path.{◌≡◌, refl}
use Prim.Native.Nat.{ℕ}
use Rattle.model.specs.Basic.{bytes}
use Rattle.model.proofs.Opened.{opened}
use Rattle.model.proofs.Texts.{ruled, ended, one_rule, times, rules_from, Cut, cut, answers, refused_by, accepted_all, true_all}

-- 639 condition words and the next operator; 640
abbrev words639 : List ℕ
words639 = times 319 (bytes "a IS t AND ") ++ bytes "a IS t "

abbrev words640 : List ℕ
words640 = times 320 (bytes "a IS t AND ")

-- 127 conclusions, each with its comma
abbrev conclusions127 : List ℕ
conclusions127 = times 127 (bytes "y IS k, ")

abbrev at_limits : List (List ℕ)
at_limits =
    ended (ruled ++ rules_from 64 1)
    ∷ ended (ruled ++ (bytes "RULE 65535: IF a IS t THEN " ++ (conclusions127 ++ bytes "y IS k; ")))
    ∷ one_rule (bytes "NOT " ++ words639)
    ∷ []

at_limits_lem : accepted_all at_limits ≡ true_all at_limits
unfolding opened
at_limits_lem = refl

-- 6: the 65th rule, the 129th conclusion
abbrev too_many_rules_texts : List Cut
too_many_rules_texts =
    cut (ruled ++ rules_from 64 1) (bytes "RULE 65: IF")
    ∷ cut (ruled ++ (bytes "RULE 1: IF a IS t THEN " ++ (conclusions127 ++ bytes "y IS k, "))) (bytes "y IS k;")
    ∷ cut (ruled ++ (bytes "RULE 1: IF a IS t THEN " ++ (conclusions127 ++ bytes "y IS k; RULE 2: IF a IS t THEN "))) (bytes "y IS k;")
    ∷ []

too_many_rules : answers too_many_rules_texts ≡ refused_by 6 too_many_rules_texts
unfolding opened
too_many_rules = refl

-- 6: the 641st condition word, as an input name, an OR, an AND, a NOT in front and a NOT behind IS; in a second rule
abbrev too_many_words_texts : List Cut
too_many_words_texts =
    cut (ruled ++ (bytes "RULE 1: IF " ++ words640)) (bytes "a IS t THEN")
    ∷ cut (ruled ++ (bytes "RULE 1: IF NOT " ++ words639)) (bytes "OR a IS t")
    ∷ cut (ruled ++ (bytes "RULE 1: IF NOT " ++ words639)) (bytes "AND a IS t")
    ∷ cut (ruled ++ (bytes "RULE 1: IF " ++ words640)) (bytes "NOT a IS t")
    ∷ cut (ruled ++ (bytes "RULE 1: IF NOT " ++ (times 319 (bytes "a IS t AND ") ++ bytes "a IS "))) (bytes "NOT t THEN")
    ∷ cut (ruled ++ (bytes "RULE 1: IF " ++ (words639 ++ bytes "THEN y IS k; RULE 2: IF a IS t "))) (bytes "AND a IS t THEN")
    ∷ []

too_many_words : answers too_many_words_texts ≡ refused_by 6 too_many_words_texts
unfolding opened
too_many_words = refl

-- the name of the 641st word and of the 129th conclusion: 2 where it is none, 4 too long, 5 not declared, all before 6
abbrev last_names : List ℕ → List Cut
last_names w =
    cut (ruled ++ (bytes "RULE 1: IF " ++ words640)) (w ++ bytes " IS t THEN")
    ∷ cut (ruled ++ (bytes "RULE 1: IF a IS t THEN " ++ (conclusions127 ++ bytes "y IS k, "))) (w ++ bytes " IS k;")
    ∷ []

last_no_name : answers (last_names (bytes "THEN")) ≡ refused_by 2 (last_names (bytes "THEN"))
unfolding opened
last_no_name = refl

last_long : answers (last_names (bytes "abcdefghijklmnopq")) ≡ refused_by 4 (last_names (bytes "abcdefghijklmnopq"))
unfolding opened
last_long = refl

last_undeclared : answers (last_names (bytes "q")) ≡ refused_by 5 (last_names (bytes "q"))
unfolding opened
last_undeclared = refl
