use mathlib.Core.Path.{sym, ap, ◌∙◌}
use Prim.Native.Nat.{ℕ}
use native.Mathlib.Omega.{arith}
use borrow.Author.Tests.{lt-ltb, le-ltb}
use Rattle.model.specs.Image.{word_bytes}
use Rattle.stored_header.specs.Tests.{pad_run}
use Rattle.stored_header.proofs.Names.{pad_more}
use Rattle.stored_header.proofs.pad_word.Goals as goal

pub returns-then-m-eq0 : goal.returns-then-m-eq0
returns-then-m-eq0 c = c.first_pad.ensures ∙ ap (λ (m : ℕ). pad_run m (word_bytes c.args.x)) (sym c.if-m-eq0.true)

pub returns-then-x-eq0 : goal.returns-then-x-eq0
returns-then-x-eq0 c =
    let x = c.args.x in
    sym (pad_more _ c.if-m-eq0.false x ∙ simp (lt-ltb x 1 (omega (arith, c.if-x-eq0.true))))

pub returns : goal.returns
returns c =
    let x = c.args.x in
    sym (pad_more _ c.if-m-eq0.false x ∙ simp (le-ltb x 1 (omega (arith, c.if-x-eq0.false))))
