use Rattle.std.proofs.Common.{◌≡◌, ℕ, ◌+◌, ◌*◌, List, ◌++◌, length, get_or, take, sym, ap, ◌∙◌, arith, length-take-le}
use lib.Seq.{slice}
use Rattle.model.specs.Block.{Rule}
use Rattle.model.specs.Bounds.{input_term_limit, output_term_limit, rule_limit, word_limit, conclusion_limit}
use Rattle.model.specs.Image.{name_words, words, image, end_of, header_size, rule_width, conclusion_width}
use Rattle.block_tables.specs.View.{whole_view, Holds}
use Rattle.block_tables.specs.Stored.{Stored}
use Rattle.variable_rows.specs.Rows.{Places}
use Rattle.variable_rows.proofs.Lists.{listed_none}
use Rattle.variable_rows.proofs.Fronts.{inputs_front_size, inputs_front_slots, outputs_front_size, outputs_front_slots, places_of}
use Rattle.term_rows.specs.Rows.{held_in}
use Rattle.term_rows.proofs.Views.{Ordered}
use Rattle.image.specs.declared.Counts.{Counts}
use Rattle.image.specs.Rows.{variable_words, head_words, entries_of}
use Rattle.word_writer.proofs.Over.{joined, retold, from_start}
use Rattle.laws.proofs.Buffers.{too_short, stored}
use Rattle.image.proofs.Whole.{words_are, size_is}
use Rattle.image.proofs.store.Goals as goal
use Rattle.image.proofs.store.Goals.{After-head_words-head}

-- what is known once the counts are
module _ (c : After-head_words-head) where
  abbrev own : List ℕ
  own = let a = c.input_slots-m in take a.result a.new.list

  abbrev others : List ℕ
  others = let b = c.output_slots-k in take b.result b.new.list

  abbrev size : ℕ
  size = get_or c.head_words-head.result 1 0

  abbrev points : ℕ
  points = c.point_count-points.result

  long_rules : length c.args.rules.now ≡ rule_limit * 4
  long_rules = omega (arith, c.told-rules)

  long_words : length c.args.words.now ≡ word_limit
  long_words = omega (arith, c.told-words)

  long_conclusions : length c.args.conclusions.now ≡ conclusion_limit * 2
  long_conclusions = omega (arith, c.told-conclusions)

  words_in : length (take c.args.n.words c.args.words.now) ≡ c.args.n.words
  words_in = length-take-le c.args.n.words c.args.words.now (omega (arith, c.requires.2.1.few_words, long_words))

  conclusions_in : length (take (c.args.n.conclusions * 2) c.args.conclusions.now) ≡ c.args.n.conclusions * 2
  conclusions_in =
      length-take-le (c.args.n.conclusions * 2) c.args.conclusions.now (omega (arith, c.requires.2.1.few_conclusions, long_conclusions))

  known : Holds c.args.s.now c.args.t.now
  known = c.requires.0

  inputs_in : length (take c.args.t.now.input_count c.args.t.now.inputs) ≡ c.args.t.now.input_count
  inputs_in = length-take-le c.args.t.now.input_count c.args.t.now.inputs (omega (arith, known.input_count, known.inputs_size))

  outputs_in : length (take c.args.t.now.output_count c.args.t.now.outputs) ≡ c.args.t.now.output_count
  outputs_in = length-take-le c.args.t.now.output_count c.args.t.now.outputs (omega (arith, known.output_count, known.outputs_size))

  own_many : length own ≡ c.input_slots-m.result
  own_many = let a = c.input_slots-m in length-take-le a.result a.new.list (omega (arith, a.ensures.0.size, a.ensures.1, inputs_in, known.input_count))

  others_many : length others ≡ c.output_slots-k.result
  others_many = let b = c.output_slots-k in length-take-le b.result b.new.list (omega (arith, b.ensures.0.size, b.ensures.1, outputs_in, known.output_count))

  own_places : Places input_term_limit own
  own_places =
      let a = c.input_slots-m in
      places_of input_term_limit a.result a.new.list (omega arith) (omega (arith, a.ensures.1, inputs_in, known.input_count)) (omega (arith, a.ensures.0.size)) a.ensures.0

  others_places : Places output_term_limit others
  others_places =
      let b = c.output_slots-k in
      places_of output_term_limit b.result b.new.list (omega arith) (omega (arith, b.ensures.1, outputs_in, known.output_count)) (omega (arith, b.ensures.0.size)) b.ensures.0

  ordered : Ordered c.args.t.now own others
  ordered =
      let t = c.args.t.now in
      record {
        inputs = c.input_slots-m.ensures.2 ∙ inputs_front_slots t.inputs t.input_count (omega (arith, known.input_count, known.inputs_size));
        outputs = c.output_slots-k.ensures.2 ∙ outputs_front_slots t.outputs t.output_count (omega (arith, known.output_count, known.outputs_size));
      }

  points_are : points ≡ held_in c.args.t.now.input_terms own (length own)
  points_are = c.point_count-points.ensures.0

  abbrev entered : ℕ → Counts
  entered x = entries_of c.args.t.now.input_count c.args.t.now.output_count (length own + length others) (x + length others) c.args.n

  head_is : c.head_words-head.result ≡ head_words (entered (held_in c.args.t.now.input_terms own (length own))) c.args.h
  head_is =
      c.head_words-head.ensures
      ∙ ap (λ (x : Counts). head_words x c.args.h) (c.entries-c.ensures.value
      ∙ (λ j. entries_of c.args.t.now.input_count c.args.t.now.output_count (sym own_many j + sym others_many j) (points_are j + sym others_many j) c.args.n))

  extent : size
      ≡ header_size + variable_words c.args.t.now own others + c.args.n.rules * rule_width + c.args.n.words
      + c.args.n.conclusions * conclusion_width
  unfolding end_of head_words
  extent = ap (λ (l : List ℕ). get_or l 1 0) head_is ∙ omega arith

  length_is : (rs : List Rule)
      → Stored rs c.args.rules.now c.args.words.now c.args.conclusions.now c.args.n.rules c.args.n.words
      c.args.n.conclusions
      → length (image (whole_view c.args.s.now c.args.t.now c.args.h rs)) ≡ size * 4
  unfolding end_of
  length_is rs st =
      let a = c.args in
      size_is a.s.now a.t.now a.h rs c.requires.1 _ _ ordered a.rules.now a.words.now a.conclusions.now _ _ _ st
      long_rules long_words long_conclusions
      ∙ omega (arith, extent)

pub input_slots-m-requires : goal.input_slots-m-requires
input_slots-m-requires c =
    let t = c.args.t.now in
    let g : Holds c.args.s.now t = c.requires.0 in
    rw (length-take-le t.input_count t.inputs (omega (arith, g.input_count, g.inputs_size)))
    (g.input_count, inputs_front_size t.inputs t.input_count g.input_terms, listed_none input_term_limit (omega arith))

pub output_slots-k-requires : goal.output_slots-k-requires
output_slots-k-requires c =
    let t = c.args.t.now in
    let g : Holds c.args.s.now t = c.requires.0 in
    rw (length-take-le t.output_count t.outputs (omega (arith, g.output_count, g.outputs_size)))
    (g.output_count, outputs_front_size t.outputs t.output_count g.output_terms, listed_none output_term_limit (omega arith))

pub returns-then-out-size : goal.returns-then-out-size
returns-then-out-size c =
    λ rs st.
    let a = c.args in
    too_short (image (whole_view a.s.now a.t.now a.h rs)) a.out.now (get_or c.head_words-head.result 1 0 * 4) (length_is (goal.at.returns-then-out-size c).After-head_words-head rs st) c.if-out-size.true

pub header-at-requires : goal.header-at-requires
header-at-requires c =
    (c.requires.0.order, c.requires.0.inside, c.requires.1, omega (arith, extent (goal.at.header-at-requires c).After-head_words-head, c.if-out-size.false))

pub variables-at-requires : goal.variables-at-requires
variables-at-requires c =
    let k = (goal.at.variables-at-requires c).After-head_words-head in
    let p = c.header-at in (
      c.requires.0,
      own_places k,
      others_places k,
      points_are k,
      omega (arith, c.point_count-points.ensures.1, own_places k),
      omega (arith, extent k, c.if-out-size.false, p.ensures.next, p.auto),
    )

pub rule_table-at-requires : goal.rule_table-at-requires
rule_table-at-requires c =
    let p = c.header-at in
    let q = c.variables-at in
    (omega (arith, c.requires.2.1.few_rules, long_rules (goal.at.rule_table-at-requires c).After-head_words-head), omega (arith, extent (goal.at.rule_table-at-requires c).After-head_words-head, c.if-out-size.false, p.ensures.next, p.auto, q.ensures.next, q.auto))

pub copy-at-requires : goal.copy-at-requires
copy-at-requires c =
    let k = (goal.at.copy-at-requires c).After-head_words-head in
    let p = c.header-at in
    let q = c.variables-at in
    let r = c.rule_table-at in
    rw (words_in k) (omega (arith, extent k, c.if-out-size.false, p.ensures.next, p.auto, q.ensures.next, q.auto, r.ensures.next, r.auto))

pub copy-requires : goal.copy-requires
copy-requires c =
    let k = (goal.at.copy-requires c).After-head_words-head in
    let p = c.header-at in
    let q = c.variables-at in
    let r = c.rule_table-at in
    let e = c.copy-at in
    rw (conclusions_in k)
    (omega (arith, words_in k, extent k, c.if-out-size.false, p.ensures.next, p.auto, q.ensures.next, q.auto, r.ensures.next, r.auto, e.ensures.next, e.auto))

pub returns : goal.returns
unfolding image
returns c =
    λ rs st.
    let a = c.args in
    let p = c.header-at in
    let q = c.variables-at in
    let r = c.rule_table-at in
    let e = c.copy-at in
    let f = c.copy in
    let room = c.if-out-size.false in
    let x = extent (goal.at.returns c).After-head_words-head in
    let v = whole_view a.s.now a.t.now a.h rs in
    let named = name_words (slice a.t.now.start a.t.now.end a.s.now) ++ name_words (slice a.h.start a.h.end a.s.now) in
    let all =
    joined (omega (arith, x, room, p.ensures.next)) (retold (ap (λ (l : List ℕ). l ++ named) (head_is (goal.at.returns c).After-head_words-head)) p.ensures.wrote)
    (joined (omega (arith, x, room, p.ensures.next, p.auto, q.ensures.next)) q.ensures.wrote
    (joined (omega (arith, x, room, p.ensures.next, p.auto, q.ensures.next, q.auto, r.ensures.next)) r.ensures.wrote
    (joined (omega (arith, x, room, p.ensures.next, p.auto, q.ensures.next, q.auto, r.ensures.next, r.auto, e.ensures.next, words_in (goal.at.returns c).After-head_words-head)) e.ensures f.ensures)))
    in
    let is = words_are a.s.now a.t.now a.h rs c.requires.1 _ _ (ordered (goal.at.returns c).After-head_words-head) a.rules.now a.words.now a.conclusions.now _ _
    _ st (long_rules (goal.at.returns c).After-head_words-head) (long_words (goal.at.returns c).After-head_words-head) (long_conclusions (goal.at.returns c).After-head_words-head) in
    stored (image v) a.out.now (get_or c.head_words-head.result 1 0 * 4) (length_is (goal.at.returns c).After-head_words-head rs st) f.new.out room
    (from_start f.result (get_or c.head_words-head.result 1 0 * 4) (words v) a.out.now f.new.out (retold (sym is) all) (length_is (goal.at.returns c).After-head_words-head rs st))
