use Rattle.block_tables.proofs.Types as types
use Rattle.declaration_text.proofs.Laws as laws
use Rattle.declaration_text.specs.Declares.{with_inputs}
use Rattle.declaration_text.proofs.input_type.Goals as goal

pub returns-then-p-eq-INT : goal.returns-then-p-eq-INT
returns-then-p-eq-INT c =
    let a = c.args in
    λ m names t g.
    laws.type_int a.s.now a.p.cursor (with_inputs m names a.p t).tables c.advance.result a.n _ g.fits c.if-p-eq-INT.true
    (types.typed a.s.now (with_inputs m names a.p t).tables a.n _ c.typed.ensures g.holds) c.advance.ensures.step

pub returns : goal.returns
returns c =
    let a = c.args in
    λ m names t g.
    laws.type_real a.s.now a.p.cursor (with_inputs m names a.p t).tables c.expect.result a.n g.holds
    c.if-p-eq-INT.false c.expect.ensures.step
