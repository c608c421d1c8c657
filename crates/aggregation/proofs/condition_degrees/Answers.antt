use mathlib.Core.Path.{◌≡◌, sym, ap, subst, ◌∙◌}
use mathlib.Core.List.{List, ◌∷◌}
use mathlib.Core.Option.{some}
use Prim.Native.Nat.{ℕ, ◌+◌, ◌-◌, ◌≤◌, ◌<◌}
use native.Mathlib.Omega.{arith}
use lib.ListN.{length, get_or}
use Rattle.model.specs.Bounds.{input_term_limit}
use Rattle.model.specs.Block.{input_terms}
use Rattle.model.specs.Degrees.{not_of, pairs}
use Rattle.model.specs.Image.{NOT_WORD, TERM_WORD, word_at, decode, RULES}
use Rattle.degrees.specs.Tables.{numbers}
use Rattle.layout.proofs.Inputs.{input_terms_few}
use Rattle.layout.proofs.Sound.{input_terms_lem}
use Rattle.condition_words.specs.Machine.{operator_of, turn}
use Rattle.condition_words.proofs.Passes.{Left, left_start, left_end, left_more}
use Rattle.aggregation.specs.Stacks.{places}
use Rattle.aggregation.proofs.Passes.{some_eq, machine, degrees_left, stack_holds}
use Rattle.aggregation.proofs.Steps.{term_in, not_in, two_in}
use Rattle.aggregation.proofs.condition_degrees.Goals as goal
use Rattle.aggregation.proofs.condition_degrees.Goals.{After-word-w, then-w-ge-TERM_WORD, else-w-ge-TERM_WORD+then-w-eq-NOT_WORD, else-w-ge-TERM_WORD+else-w-eq-NOT_WORD}

-- what a turn starts from
module _ (c : After-word-w) where
  abbrev w : ℕ → ℕ
  w = word_at c.args.image.now.stored.bytes.now

  abbrev ds : List ℕ
  ds = numbers c.args.ds.now.at

  abbrev terms : ℕ
  terms = length (input_terms (decode w))

  abbrev word : ℕ
  word = c.word-w.result

  -- i words are read
  abbrev At : ℕ → List ℕ → Type 0
  At i s = let t = c.args.image.now.stored.header.words in Left (machine w c.args.p ds) w t.start t.rows i (some s)

  -- what the word leaves
  left : (s : List ℕ) × (turn (machine w c.args.p ds) word (some c.loop-i.stack) ≡ some s) × At (c.loop-i.i + 1) s
  left =
      let l = c.loop-i in
      let image = c.args.image.now in
      let t = image.stored.heads.words in
      let p = c.args.p in
      let all = degrees_left w image.sound p ds _ _ t.start t.rows in
      let e : c.row.result ≡ image.stored.header.words.start + l.i = omega (arith, c.row.ensures) in
      left_more (machine w p ds) w _ _ l.i word _ _ all c.loop-i-test.true (c.word-w.ensures.0 ∙ ap w e) l.invariant

  term : TERM_WORD ≤ word → (word - TERM_WORD < input_term_limit) × (length c.loop-i.stack < places) × (left.0 ≡ get_or ds (word - TERM_WORD) 0 ∷ c.loop-i.stack)
  term h =
      let q = term_in c.args.p ds terms c.loop-i.stack word left.0 left.1 h in
      let s = c.args.image.now.sound in
      (omega (arith, q.0, input_terms_lem w s.frame, input_terms_few w s), q.1, q.2)

  one : word ≡ NOT_WORD → (0 < length c.loop-i.stack) × ((a : ℕ) (l : List ℕ) → c.loop-i.stack ≡ a ∷ l → (length l < places) × (left.0 ≡ not_of a ∷ l))
  one = not_in c.args.p ds terms c.loop-i.stack word left.0 left.1

  two : word < TERM_WORD → (word ≡ NOT_WORD → ⊥)
      → (2 ≤ length c.loop-i.stack) × ((a b : ℕ) (l : List ℕ) → c.loop-i.stack ≡ b ∷ a ∷ l → (length l < places) × (left.0 ≡ pairs c.args.p (operator_of word) a b ∷ l))
  two = two_in c.args.p ds terms c.loop-i.stack word left.0 left.1

-- two operands off the stack
both : (st l₁ l₂ : List ℕ) (a b : ℕ) → st ≡ b ∷ l₁ → l₁ ≡ a ∷ l₂ → st ≡ b ∷ a ∷ l₂
both st l₁ l₂ a b e₁ e₂ = e₁ ∙ ap (λ (l : List ℕ). b ∷ l) e₂

pub loop-i-init : goal.loop-i-init
loop-i-init c = let e = c.new-stack.ensures in rw e (left_start _ _ _ _)

pub get-requires : goal.get-requires
get-requires c = (omega arith, omega (arith, (term (goal.at.get-requires c).After-word-w c.if-w-ge-TERM_WORD.true).0))

pub push-requires : goal.push-requires
push-requires c = ((term (goal.at.push-requires c).After-word-w c.if-w-ge-TERM_WORD.true).1, c.get.ensures.1)

pub pop-a-requires : goal.pop-a-requires
pop-a-requires c = (one (goal.at.pop-a-requires c).After-word-w c.if-w-eq-NOT_WORD.true).0

pub push-requires-then-w-eq-NOT_WORD : goal.push-requires-then-w-eq-NOT_WORD
push-requires-then-w-eq-NOT_WORD c =
    let t = one (goal.at.push-requires-then-w-eq-NOT_WORD c).After-word-w c.if-w-eq-NOT_WORD.true in
    ((t.1 _ _ c.pop-a.ensures.0).0, c.not.ensures.1)

pub pop-b-requires : goal.pop-b-requires
pop-b-requires c =
    let t = two (goal.at.pop-b-requires c).After-word-w c.if-w-ge-TERM_WORD.false c.if-w-eq-NOT_WORD.false in
    omega (arith, t.0)

pub pop-a-requires-else-w-eq-NOT_WORD : goal.pop-a-requires-else-w-eq-NOT_WORD
pop-a-requires-else-w-eq-NOT_WORD c =
    let t = two (goal.at.pop-a-requires-else-w-eq-NOT_WORD c).After-word-w c.if-w-ge-TERM_WORD.false c.if-w-eq-NOT_WORD.false in
    omega (arith, t.0, ap length c.pop-b.ensures.0)

pub push-requires-else-w-eq-NOT_WORD : goal.push-requires-else-w-eq-NOT_WORD
push-requires-else-w-eq-NOT_WORD c =
    let t = two (goal.at.push-requires-else-w-eq-NOT_WORD c).After-word-w c.if-w-ge-TERM_WORD.false c.if-w-eq-NOT_WORD.false in
    ((t.1 _ _ _ (both _ _ _ _ _ c.pop-b.ensures.0 c.pop-a-else-w-eq-NOT_WORD.ensures.0)).0, c.joined.ensures.1)

pub loop-i-preserved : goal.loop-i-preserved
loop-i-preserved c =
    let p = (goal.at.loop-i-preserved c).After-word-w in
    let next : (left p).0 ≡ c.if-w-ge-TERM_WORD.stack =
    elim c.if-w-ge-TERM_WORD.branch [
      | then-w-ge-TERM_WORD w ↦
          let t = term p w.if-w-ge-TERM_WORD.true in
          t.2 ∙ ap (λ (x : ℕ). x ∷ c.loop-i.stack) (sym w.get.ensures.0) ∙ sym w.push.ensures ∙ sym w.stack-is
      | else-w-ge-TERM_WORD+then-w-eq-NOT_WORD w ↦
          let t = one p w.if-w-eq-NOT_WORD.true in
          (t.1 _ _ w.pop-a.ensures.0).1 ∙ ap (λ (x : ℕ). x ∷ w.pop-a.new.self) (sym w.not.ensures.0) ∙ sym w.push-then-w-eq-NOT_WORD.ensures ∙ sym w.stack-is
      | else-w-ge-TERM_WORD+else-w-eq-NOT_WORD w ↦
          let t = two p w.if-w-ge-TERM_WORD.false w.if-w-eq-NOT_WORD.false in
          let a = w.pop-a-else-w-eq-NOT_WORD in
          (t.1 _ _ _ (both _ _ _ _ _ w.pop-b.ensures.0 a.ensures.0)).1 ∙ ap (λ (x : ℕ). x ∷ a.new.self) (sym w.joined.ensures.0)
          ∙ sym w.push-else-w-eq-NOT_WORD.ensures ∙ sym w.stack-is
    ] in
    subst (At p (c.loop-i.i + 1)) next (left p).2

pub returns : goal.returns
returns c =
    let l = c.loop-i in
    let image = c.args.image.now in
    let w = word_at image.stored.bytes.now in
    let h = image.stored.heads in
    let ds = numbers c.args.ds.now.at in
    let all = degrees_left w image.sound c.args.p ds _ _ h.words.start h.words.rows in
    let e = c.degrees.ensures ∙ some_eq _ _ (left_end (machine w c.args.p ds) w _ _ l.i _ c.loop-i-test.false l.invariant ∙ all) in
    λ i k. stack_holds _ (numbers c.degrees.result.at) (length l.stack) (w RULES) e i (omega (arith, h.rules.rows))
