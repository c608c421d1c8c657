use mathlib.Core.Path.{refl}
use native.Mathlib.Omega.{arith}
use borrow.Author.Rules.{rules}
use mathlib.Core.List.{[]}
use Rattle.cursor.proofs.Laws.{some_left}
use Rattle.condition_text.proofs.Laws as laws
use Rattle.condition_text.proofs.count.Goals as goal

pub returns-then-p-lt-WORDS : goal.returns-then-p-lt-WORDS
returns-then-p-lt-WORDS c =
    let a = c.advance.ensures in
    record {
      words_value = (λ b. laws.word_more _ _ _ _ _ c.if-p-lt-WORDS.true a.step);
      counts = record { fewer = a.moves.0; room = record { fits = a.step.fits; put = search rules; words = search rules }; words = λ h. refl; put = refl };
    }

pub returns : goal.returns
returns c =
    let p = c.args.p in
    let s = c.args.s.now in
    let g = c.requires in
    let a = c.refused.ensures.by_index s g.0.fits in
    let z = c.refused.ensures.stops in
    let e = laws.refused_left s 6 p.cursor c.refused.result.cursor (g.0.fits.halted g.1) a in
    let m = some_left s p.cursor g.1 in
    record {
      words_value = (λ b. rw z.words (laws.word_full _ _ _ _ b c.if-p-lt-WORDS.false a));
      counts = record { fewer = omega arith; room = (laws.stopped 0 [] g.0 a z).room; words = λ h. absurd (z.why h); put = z.put };
    }
