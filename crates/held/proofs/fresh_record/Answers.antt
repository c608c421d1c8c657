use mathlib.Core.Path.{◌≡◌, refl, sym, ap, ◌∙◌}
use mathlib.Core.List.{List, ◌++◌}
use Prim.Native.Nat.{ℕ, ◌-◌, ◌<◌}
use native.Mathlib.Omega.{arith}
use lib.IntN.{ℤ, pos}
use lib.ListN.{set, replicate}
use Rattle.model.specs.Basic.{tab}
use Rattle.model.specs.Bounds.{output_limit}
use Rattle.model.specs.Image.{word_at, output_at, decode, OUTPUTS}
use Rattle.model.specs.Evaluation.{start_of, held_of, fresh_of}
use Rattle.model.specs.declared.Crisp.{Crisp}
use Rattle.laws.proofs.Lists.{map_tab}
use Rattle.laws.proofs.Places.{fill_front}
use Rattle.layout.proofs.Sound.{outputs_few}
use Rattle.held.proofs.Laws.{held_tab}
use Rattle.held.proofs.fresh_record.Goals as goal
use Rattle.held.proofs.fresh_record.Goals.{After-start_of}

few : (c : After-start_of) → c.loop-i.i < output_limit
few c =
    let image = c.args.image.now in
    omega (arith, outputs_few (word_at image.stored.bytes.now) image.sound, image.stored.heads.outputs.rows)

pub loop-i-init : goal.loop-i-init
unfolding tab
loop-i-init c = refl

pub bounds-figures-i : goal.bounds-figures-i
bounds-figures-i c = few c

pub loop-i-preserved : goal.loop-i-preserved
loop-i-preserved c =
    let f : ℕ → ℤ = λ j. start_of (output_at (word_at c.args.image.now.stored.bytes.now) j).range in
    let x = c.start_of.result in
    let i = c.loop-i.i in
    ap (λ (cs : List Crisp). set cs i x) c.loop-i.invariant
    ∙ fill_front (λ j. record { 0 = f j }) (record { 0 = pos 0 }) x output_limit i (few c) (ap (λ (z : ℤ). record { 0 = z }) (c.start_of.ensures ∙ ap start_of c.range_of.ensures))

pub returns : goal.returns
unfolding fresh_of decode
returns c =
    let w = word_at c.args.image.now.stored.bytes.now in
    let f : ℕ → ℤ = λ j. start_of (output_at w j).range in
    let e : c.loop-i.i ≡ w OUTPUTS = omega (arith, c.args.image.now.stored.heads.outputs.rows) in
    ap (λ (x : List Crisp). record { figures = x })
    (c.loop-i.invariant ∙ ap (λ (n : ℕ). tab (λ j. record { 0 = f j }) n 0 ++ replicate (output_limit - n) (record { 0 = pos 0 })) e ∙ held_tab f (w OUTPUTS))
    ∙ ap held_of (sym (map_tab (λ v. start_of v.range) (output_at w) (w OUTPUTS) 0))
