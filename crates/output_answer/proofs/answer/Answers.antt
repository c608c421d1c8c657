use mathlib.Core.Path.{sym, ap, ◌∙◌, subst}
use mathlib.Core.Option.{Option}
use Prim.Native.Nat.{ℕ, ◌<◌}
use native.Mathlib.Omega.{arith}
use lib.IntN.{ℤ, pos}
use lib.ListN.{length, get_or}
use Rattle.model.specs.Evaluation.{unfired}
use Rattle.model.specs.Image.{word_at, singleton_at, output_at, OUTPUTS}
use Rattle.laws.proofs.Lists.{map_tab}
use Rattle.laws.proofs.Places.{length_tab, tab_nth}
use Rattle.crisp.specs.Crisp.{InCrisp}
use Rattle.layout.specs.Tables.{output_count, output_first_at}
use Rattle.layout.proofs.Sound.{positions_crisp}
use Rattle.output_answer.specs.Positions.{positions_of}
use Rattle.output_answer.proofs.Fired.{fired_is, unfired_is}
use Rattle.output_answer.proofs.answer.Goals as goal

pub returns-in-Some : goal.returns-in-Some
unfolding output_at
returns-in-Some c hs e =
    let i = c.args.i in
    let stored = c.args.image.now.stored in
    let w = word_at stored.bytes.now in
    let n = output_count w i in
    let p = output_first_at w i in
    let f : ℕ → ℤ = λ j. (singleton_at w j).at in
    let ps = positions_of w i in
    let known : i < w OUTPUTS = omega (arith, stored.heads.outputs.rows, c.requires) in
    let inside : (k : ℕ) → k < length ps → k < n = λ k h. omega (arith, h, length_tab f n p) in
    let crisp : (k : ℕ) → k < length ps → InCrisp (get_or ps k (pos 0)) =
    λ k h. subst InCrisp (sym (tab_nth f n p k (pos 0) (inside k h))) (positions_crisp w c.args.image.now.sound i known k (inside k h)) in
    let s = c.in-Some.ensures in
    c.answer_with.ensures
    ∙ fired_is (output_at w i) ps hs c.args.held.0 c.in-Some.figure.0 c.args.sums.heights (sym (map_tab (λ t. t.at) (singleton_at w) n p)) e.1 (s.2 ps hs e crisp) s.0

pub returns-in-Some-default_of : goal.returns-in-Some-default_of
returns-in-Some-default_of c hs e =
    let held = c.args.held.0 in
    let v = output_at (word_at c.args.image.now.stored.bytes.now) c.args.i in
    c.answer_with-in-Some-default_of.ensures ∙ ap (λ (d : Option ℤ). unfired d held) c.in-Some-default_of.ensures
    ∙ unfired_is v hs held c.args.sums.heights e.1 c.in-None.ensures

pub returns-in-None-default_of : goal.returns-in-None-default_of
returns-in-None-default_of c hs e =
    let held = c.args.held.0 in
    let v = output_at (word_at c.args.image.now.stored.bytes.now) c.args.i in
    c.answer_with-in-None-default_of.ensures ∙ ap (λ (d : Option ℤ). unfired d held) c.in-None-default_of.ensures
    ∙ unfired_is v hs held c.args.sums.heights e.1 c.in-None.ensures
