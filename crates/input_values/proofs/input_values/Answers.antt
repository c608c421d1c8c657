use mathlib.Core.Path.{◌≡◌, refl, sym, ap, subst, ◌∙◌}
use mathlib.Core.List.{List}
use Prim.Native.Nat.{ℕ, ◌≤◌}
use native.Mathlib.Numerals.{add-one}
use native.Mathlib.Omega.{arith}
use lib.IntN.{ℤ, pos}
use lib.ListN.{length, length-set, take, replicate}
use lib.Seq.{sets, take-suc, take_all, length-take-le}
use Rattle.std.proofs.lemmas.Result.{IfOk-at_ok}
use Rattle.model.specs.Bounds.{input_limit}
use Rattle.model.specs.declared.Crisp.{Crisp}
use Rattle.model.specs.Readings.{value_in}
use Rattle.model.specs.Image.{word_at}
use Rattle.laws.proofs.Arrays.{each_start, each_set, map_set}
use Rattle.crisp.specs.Crisp.{InCrisp}
use Rattle.layout.proofs.Inputs.{input_limit_lem}
use Rattle.input_values.specs.Filled.{filled, figures, AllCrisp}
use Rattle.input_values.proofs.Fill.{one_more, filled_sets}
use Rattle.input_values.proofs.Wrong.{found, found_most, found_next, found_all}
use Rattle.input_values.proofs.input_values.Goals as goal

-- the values that were found when all were read
whole : (xs : List ℤ) (at : List Crisp) (i : ℕ) → i ≤ input_limit → length xs ≡ i → figures at ≡ sets (replicate input_limit (pos 0)) 0 (take i xs)
    → figures at ≡ filled input_limit (pos 0) xs
whole xs at i h e g =
    g ∙ ap (λ (ys : List ℤ). sets (replicate input_limit (pos 0)) 0 ys) (take_all i xs (omega arith)) ∙ filled_sets input_limit (pos 0) xs (omega arith)

pub loop-i-init : goal.loop-i-init
loop-i-init c =
    let image = c.args.image.now in record {
      few = omega (arith, image.stored.heads.inputs.rows, input_limit_lem (word_at image.stored.bytes.now) image.sound);
      long = refl;
      read = omega arith;
      values = refl;
      crisp = each_start InCrisp (pos 0) input_limit (omega arith);
    }

pub returns-in_default : goal.returns-in_default
returns-in_default c =
    let l = c.loop-i in
    let stored = c.args.image.now.stored in
    let e = found_all (word_at stored.bytes.now) c.args.rs.now l.i _ c.input_type.result c.taken.result (omega (arith, stored.heads.inputs.rows)) (omega (arith, c.told-rs)) l.invariant.read
    c.input_type.ensures c.taken.ensures.0 (ap value_in c.in_default.is) in
    record {
      all_read = tt;
      crisp = tt;
      wrong = (c.loop-i-test.true, sym e, whole (found (word_at stored.bytes.now) c.args.rs.now) l.at l.i (omega arith) e l.invariant.values, l.invariant.crisp);
    }

pub loop-i-preserved : goal.loop-i-preserved
loop-i-preserved c =
    let l = c.loop-i in
    let stored = c.args.image.now.stored in
    let w = word_at stored.bytes.now in
    let rs = c.args.rs.now in
    let xs = found w rs in
    let x = c.in-Ok.x in
    let r = found_next w rs l.i _ c.input_type.result c.taken.result (omega (arith, stored.heads.inputs.rows)) (omega (arith, c.told-rs)) l.invariant.read
    c.input_type.ensures c.taken.ensures.0 x.0 (ap value_in c.in-Ok.is) in
    let l₀ = replicate input_limit (pos 0) in
    let n = length-take-le l.i xs l.invariant.read in record {
      few = l.invariant.few;
      long = length-set l.at l.i x ∙ l.invariant.long;
      read = omega (arith, r.0);
      values = one_more (λ (y : Crisp). y.0) l.at l₀ 0 l.i (take l.i xs) x _ l.invariant.values (omega (arith, n)) (sym r.1)
          ∙ ap (λ (ys : List ℤ). sets l₀ 0 ys) (sym (take-suc xs l.i (pos 0) r.0))
          ∙ (rw add-one refl);
      crisp = subst AllCrisp (sym (map_set (λ (y : Crisp). y.0) l.at l.i x))
          (each_set InCrisp (pos 0) (figures l.at) l.i x.0 l.invariant.crisp (IfOk-at_ok (λ y. InCrisp y.0) c.in-Ok.is c.taken.ensures.1));
    }

pub returns : goal.returns
returns c =
    let l = c.loop-i in
    let stored = c.args.image.now.stored in
    let w = word_at stored.bytes.now in
    let rs = c.args.rs.now in
    let e : length (found w rs) ≡ l.i = omega (arith, found_most w rs, stored.heads.inputs.rows) in
    record {
      all_read = (omega arith, whole (found w rs) l.at l.i (omega arith) e l.invariant.values);
      crisp = l.invariant.crisp;
      wrong = tt;
    }
