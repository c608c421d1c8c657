use mathlib.Core.Path.{◌≡◌, refl, sym, ap, ◌∙◌}
use mathlib.Core.List.{List, map}
use mathlib.Core.Bool.{true}
use mathlib.Core.Option.{some}
use Prim.Native.Nat.{ℕ, ◌≤◌, ◌<◌}
use native.Mathlib.Omega.{arith}
use lib.ListN.{length}
use Rattle.model.specs.Image.{word_at, decode}
use Rattle.model.specs.Outcome.{refused}
use Rattle.model.specs.Evaluation.{no_answer, padded, held_of, held_ok, figures_of}
use Rattle.model.specs.declared.Answer.{Answer}
use Rattle.degrees.specs.Tables.{numbers}
use Rattle.layout.proofs.Whole.{inputs_count}
use Rattle.input_values.specs.Values.{values_read}
use Rattle.block_evaluation.proofs.Laws.{tells_as, called_12, called_13, called_14, called_ok, answers_are}
use Rattle.block_evaluation.proofs.evaluate_accepted.Goals as goal
use Rattle.block_evaluation.proofs.evaluate_accepted.Goals.{Else-n-image, Else-not-record_ok, Start}

inputs_are : (s : Start) → length (decode (word_at s.args.image.now.stored.bytes.now)).inputs ≡ s.args.image.now.stored.header.inputs.rows
inputs_are s = let stored = s.args.image.now.stored in inputs_count (word_at stored.bytes.now) ∙ sym stored.heads.inputs.rows

count_right : (c : Else-n-image) → c.args.n ≡ length (decode (word_at c.args.image.now.stored.bytes.now)).inputs
count_right c = let stored = c.args.image.now.stored in c.if-n-image.false ∙ stored.heads.inputs.rows ∙ sym (inputs_count (word_at stored.bytes.now))

held_right : (c : Else-not-record_ok) → held_ok (decode (word_at c.args.image.now.stored.bytes.now)).outputs (figures_of c.args.before) ≡ true
held_right c = sym c.record_ok.ensures ∙ c.if-not-record_ok.false

pub returns-then-n-image : goal.returns-then-n-image
returns-then-n-image c =
    let a = c.args in
    let e = called_12 (decode (word_at a.image.now.stored.bytes.now)) a.rs.now a.n a.before (λ e. c.if-n-image.true (e ∙ inputs_are (goal.at.returns-then-n-image c).Start)) in
    tells_as _ a.before _ _ e c.refused.ensures

pub returns-then-not-record_ok : goal.returns-then-not-record_ok
returns-then-not-record_ok c =
    let a = c.args in
    let no = sym c.record_ok.ensures ∙ c.if-not-record_ok.true in
    let b = decode (word_at a.image.now.stored.bytes.now) in
    tells_as _ a.before _ _ (called_13 b a.rs.now a.n a.before (count_right (goal.at.returns-then-not-record_ok c).Else-n-image) no) c.refused-then-not-record_ok.ensures

pub returns-in-Err : goal.returns-in-Err
returns-in-Err c =
    let a = c.args in
    let b = decode (word_at a.image.now.stored.bytes.now) in
    let w = c.in-Err.ensures.wrong in
    let few : length (values_read b.inputs a.rs.now) < length b.inputs = omega (arith, inputs_are (goal.at.returns-in-Err c).Start, w.0, w.1) in
    let e = called_14 b a.rs.now a.n a.before (count_right (goal.at.returns-in-Err c).Else-n-image) (held_right (goal.at.returns-in-Err c).Else-not-record_ok) few ∙ ap (λ (k : ℕ). refused 14 (some k)) (sym w.1) in
    tells_as _ a.before _ _ e c.refused-in-Err.ensures

pub returns : goal.returns
returns c =
    let a = c.args in
    let image = a.image.now in
    let w = word_at image.stored.bytes.now in
    let b = decode w in
    let u = c.in-Ok.ensures.all_read in
    let all : length b.inputs ≤ length (values_read b.inputs a.rs.now) = omega (arith, inputs_are (goal.at.returns c).Start, u) in
    let g = answers_are w image.sound a.rs.now a.before _ image.counted c.in-Ok.xs (numbers c.term_degrees-ds.result.at) (numbers c.heights-hs.result.at) all
    u.1 c.term_degrees-ds.ensures c.heights-hs.ensures in
    let r = c.outputs.ensures in
    tells_as _ a.before _ _ (called_ok b a.rs.now a.n a.before (count_right (goal.at.returns c).Else-n-image) (held_right (goal.at.returns c).Else-not-record_ok) all)
    (record { verdict = refl; answers = r.answers_value ∙ ap (padded no_answer) g; held = r.held_value ∙ ap (λ (x : List Answer). held_of (map (λ y. y.thousandths.0) x)) g })
