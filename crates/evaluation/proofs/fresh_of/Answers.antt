use mathlib.Core.Path.{sym, ap, ◌∙◌, subst}
use mathlib.Core.List.{List}
use Prim.Native.Nat.{ℕ}
use Rattle.std.specs.Prelude.{Err}
use Rattle.model.specs.Outcome.{Outcome, verdict_in}
use Rattle.model.specs.Evaluation.{record_in, fresh_of}
use Rattle.model.specs.Image.{word_at, decode}
use Rattle.model.specs.Refusals.{verdict_of}
use Rattle.model.specs.declared.Held.{Held}
use Rattle.model.specs.declared.Refusal.{Refusal}
use Rattle.load.specs.Judged.{Judged}
use Rattle.evaluation.proofs.Laws.{fresh_yes, fresh_no}
use Rattle.evaluation.proofs.fresh_of.Goals as goal

pub returns-in-Err : goal.returns-in-Err
unfolding Judged
returns-in-Err c =
    let img = c.args.img.now in
    let q = c.in-Err.ensures in
    let e = fresh_no img q.0 in
    (ap (λ (why : Refusal). verdict_of (Err why)) q.1 ∙ ap (λ (o : Outcome Held). verdict_in o) (sym e), ap record_in (sym e))

pub returns-in-Ok : goal.returns-in-Ok
unfolding Judged
returns-in-Ok c =
    let img = c.args.img.now in
    let q = subst (Judged img) c.in-Ok.is c.examine.ensures in
    let e = fresh_yes img q.0 in
    (ap (λ (o : Outcome Held). verdict_in o) (sym e), c.fresh_record.ensures ∙ ap (λ (bytes : List ℕ). fresh_of (decode (word_at bytes))) q.1 ∙ ap record_in (sym e))
