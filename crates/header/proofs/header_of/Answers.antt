use native.Mathlib.Omega.{arith}
use Rattle.words.proofs.Bytes.{word_fits}
use Rattle.header.proofs.header_of.Goals as goal

pub returns : goal.returns
returns c =
    record {
      fits = word_fits c.args.img.now (λ k. omega (arith, c.type_inv.img k));
      inputs = c.table_of.ensures;
      outputs = c.table_of-2.ensures;
      terms = c.table_of-3.ensures;
      points = c.table_of-4.ensures;
      rules = c.table_of-5.ensures;
      words = c.table_of-6.ensures;
      conclusions = c.table_of-7.ensures;
    }
