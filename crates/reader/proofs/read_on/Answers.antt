use mathlib.Core.Path.{refl, sym, ap, ◌∙◌}
use native.Mathlib.Omega.{arith}
use Rattle.reader.proofs.Laws as laws
use lib.ListN.{length}
use mathlib.Core.Option.{some}
use Prim.Native.Nat.{ℕ}
use Rattle.model.specs.Outcome.{refused, length_in, buffer_after}
use Rattle.block_tables.specs.View.{block_view}
use Rattle.rule_heading.specs.Opening.{headed}
use Rattle.symbol_table.proofs.Laws.{is_symbols, describes}
use Rattle.rule_text.specs.Progress.{holding}
use Rattle.block_text.proofs.Laws.{parts_there_lem, back_ends}
use Rattle.reader.proofs.read_on.Goals as goal

pub symbols_of-symbols-requires : goal.symbols_of-symbols-requires
symbols_of-symbols-requires c = (c.requires.0.holds.input_terms, c.requires.0.holds.output_terms)

pub rule_heading-o-requires : goal.rule_heading-o-requires
rule_heading-o-requires c = c.requires.0.fits

pub invariant_of-declarations : goal.invariant_of-declarations
invariant_of-declarations c = record { sound = is_symbols _ _ c.symbols_of-symbols.ensures _ c.requires.0.holds }

pub rules-q-requires : goal.rules-q-requires
rules-q-requires c =
    let s = c.args.s.now in
    let t = c.args.p.tables in
    let h = c.rule_heading-o.result.heading in
    let g = c.requires.0.holds in
    let b = headed s h (block_view s t) in (
      c.rule_heading-o.ensures.within.1,
      record { rules = omega arith; words = omega arith; conclusions = omega arith },
      record {
        block = b;
        describes = describes _ _ c.symbols_of-symbols.ensures s g b (laws.inputs_headed s t h) (laws.outputs_headed s t h);
        kept = laws.kept_none s t h _ _ _ refl refl refl;
      },
    )

pub is_complete-requires : goal.is_complete-requires
is_complete-requires c =
    let k = is_symbols _ _ c.symbols_of-symbols.ensures _ c.requires.0.holds in
    (k.inputs, k.outputs)

pub back-f-requires : goal.back-f-requires
back-f-requires c = c.rules-q.ensures.within.fits

pub of-requires : goal.of-requires
of-requires c =
    let s = c.args.s.now in
    let p = c.args.p in
    let t = p.tables in
    let h = c.rule_heading-o.result.heading in
    let k = c.symbols_of-symbols.ensures in
    let g = c.requires.0.holds in
    let b = headed s h (block_view s t) in
    let G = c.rules-q.ensures.goes b (describes _ _ k s g b (laws.inputs_headed s t h) (laws.outputs_headed s t h)) (laws.kept_none s t h _ _ _ refl refl refl) in
    let w = holding G.rules b in
    let x = back_ends _ s _ _ c.back-f.ensures w c.rules-q.result.totals.words
    (parts_there_lem s _ _ w (describes _ _ k s g w (laws.inputs_whole s t h G.rules) (laws.outputs_whole s t h G.rules)) ∙ sym c.is_complete.ensures) in
    laws.number s t h p.cursor c.rule_heading-o.result.cursor c.rules-q.result.cursor G.rules c.rules-q.result.totals.words
    c.requires.1 (c.rule_heading-o.ensures.n_value (block_view s t) 0 (laws.bare s t)) G.reads c.back-f.result x c.in-Some.r c.in-Some.is

pub returns-in-Some : goal.returns-in-Some
returns-in-Some c =
    let s = c.args.s.now in
    let p = c.args.p in
    let t = p.tables in
    let h = c.rule_heading-o.result.heading in
    let k = c.symbols_of-symbols.ensures in
    let g = c.requires.0.holds in
    let b = headed s h (block_view s t) in
    let G = c.rules-q.ensures.goes b (describes _ _ k s g b (laws.inputs_headed s t h) (laws.outputs_headed s t h)) (laws.kept_none s t h _ _ _ refl refl refl) in
    let w = holding G.rules b in
    let x = back_ends _ s _ _ c.back-f.ensures w c.rules-q.result.totals.words
    (parts_there_lem s _ _ w (describes _ _ k s g w (laws.inputs_whole s t h G.rules) (laws.outputs_whole s t h G.rules)) ∙ sym c.is_complete.ensures) in
    let e = laws.refused_so s t h p.cursor c.rule_heading-o.result.cursor c.rules-q.result.cursor G.rules
    c.rules-q.result.totals.words c.requires.1 (c.rule_heading-o.ensures.n_value (block_view s t) 0 (laws.bare s t)) G.reads c.back-f.result
    x c.in-Some.r c.in-Some.is (length c.args.out.now) c.requires.2 in
    record {
      result_value = c.refusal_of.ensures ∙ ap (λ (n : ℕ). refused n (some c.back-f.result.place)) c.of.ensures ∙ ap length_in (sym e);
      buffer = ap (buffer_after c.args.out.now) (sym e);
    }

pub store-requires : goal.store-requires
store-requires c =
    let s = c.args.s.now in
    let t = c.args.p.tables in
    let h = c.rule_heading-o.result.heading in
    let g = c.requires.0.holds in
    let b = headed s h (block_view s t) in
    let k = describes _ _ c.symbols_of-symbols.ensures s g b (laws.inputs_headed s t h) (laws.outputs_headed s t h) in
    let G = c.rules-q.ensures.goes b k (laws.kept_none s t h _ _ _ refl refl refl) in
    (g, c.rule_heading-o.ensures.within.2, (G.rules, (G.kept (c.back-f.ensures.sticky c.in_default.is)).stored))

pub returns : goal.returns
returns c =
    let s = c.args.s.now in
    let p = c.args.p in
    let t = p.tables in
    let h = c.rule_heading-o.result.heading in
    let k = c.symbols_of-symbols.ensures in
    let g = c.requires.0.holds in
    let b = headed s h (block_view s t) in
    let G = c.rules-q.ensures.goes b (describes _ _ k s g b (laws.inputs_headed s t h) (laws.outputs_headed s t h)) (laws.kept_none s t h _ _ _ refl refl refl) in
    let w = holding G.rules b in
    let x = back_ends _ s _ _ c.back-f.ensures w c.rules-q.result.totals.words
    (parts_there_lem s _ _ w (describes _ _ k s g w (laws.inputs_whole s t h G.rules) (laws.outputs_whole s t h G.rules)) ∙ sym c.is_complete.ensures) in
    let e = laws.accepted_so s t h p.cursor c.rule_heading-o.result.cursor c.rules-q.result.cursor G.rules
    c.rules-q.result.totals.words c.requires.1 (c.rule_heading-o.ensures.n_value (block_view s t) 0 (laws.bare s t)) G.reads
    c.back-f.result x (length c.args.out.now) c.requires.2 c.in_default.is in
    let y = c.store.ensures G.rules (G.kept (c.back-f.ensures.sticky c.in_default.is)).stored in
    record {
      result_value = y.0 ∙ ap length_in (sym e);
      buffer = y.1 ∙ ap (buffer_after c.args.out.now) (sym e);
    }
