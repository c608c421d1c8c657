use mathlib.Core.Path.{refl}
use native.Mathlib.Omega.{arith}
use borrow.Author.Rules.{rules}
use lib.Seq.{take-set-le}
use Rattle.cursor.proofs.Laws.{was_refused, stands}
use Rattle.condition_text.proofs.put.Goals as goal

pub returns-then-is_some : goal.returns-then-is_some
returns-then-is_some c = record { cursor = refl; words = refl; grows = search rules; most = search rules; stays = refl; adds = λ h. absurd (was_refused c.is_some.ensures c.if-is_some.true h) }

pub bounds-words-p : goal.bounds-words-p
bounds-words-p c = omega (arith, c.requires.2 (stands c.is_some.ensures c.if-is_some.false))

pub returns : goal.returns
returns c =
    let h = c.requires.2 (stands c.is_some.ensures c.if-is_some.false) in
    record {
      cursor = refl;
      words = refl;
      grows = search rules;
      most = search rules;
      stays =
          take-set-le c.args.p.put c.args.words.now c.args.p.put c.args.w (omega arith);
      adds = λ q. record { put = refl; said = refl };
    }
