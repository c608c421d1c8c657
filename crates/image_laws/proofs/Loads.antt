-- The load check accepts a list of bytes, and as the block b, exactly when b is well-formed and the bytes are its image.
use Rattle.std.specs.Prelude.{if◌then◌else◌}
use mathlib.Core.Path.{◌≡◌, refl, ap, ◌∙◌, subst}
use mathlib.Core.Bool.{Bool, true, false, ◌&&◌}
use mathlib.Core.List.{List, map}
use mathlib.Core.Logic.{◌↔◌}
use mathlib.Core.Option.{Option, none, some}
use Prim.Native.Nat.{ℕ, ◌%◌}
use native.Mathlib.Omega.{arith}
use borrow.Author.Tests.{leb-true}
use lib.Dec.{leb, eqb}
use lib.IntN.{ℤ}
use lib.Signed.{lt_z}
use Rattle.model.specs.Basic.{gather, same, tab}
use Rattle.model.specs.Outcome.{accepted, refused}
use Rattle.model.specs.Bounds.{M}
use Rattle.model.specs.Block.{Point, Term, Input, Range, Output, Block, input_terms, output_terms, in_range}
use Rattle.model.specs.declared.Pair.{Pair}
use Rattle.model.specs.declared.Pair.TheVariants.{MinMax, ProdAsum, BdifBsum}
use Rattle.model.specs.declared.Accumulation.{Accumulation}
use Rattle.model.specs.declared.Accumulation.TheVariants.{Max, Bsum}
use Rattle.model.specs.declared.Activation.{Activation}
use Rattle.model.specs.declared.Activation.TheVariants.{Min, Prod}
use Rattle.model.specs.Tokens.{is_name, in_crisp}
use Rattle.model.specs.WellFormed.{unit_ok, point_ok, term_ok, input_ok, range_ok, figure_ok, default_ok, singleton_ok, output_ok, well_formed}
use Rattle.model.specs.Image.{word_at, pair_word, accu_word, act_word, name_words, singleton_term, terms, words, image, input_at, output_at, rule_at, pair_of, accu_of, act_of, decode, is_image_of, loads, BLOCK_NAME, RULE_BLOCK_NAME}
use Rattle.laws.proofs.Places.{At, at_cut, tab_at, same_eq, same_refl}
use Rattle.laws.proofs.Tests.{both, and_i, passed}
use Rattle.words.proofs.Bytes.{words_at}
use Rattle.laws.proofs.Each.{Each, each_passes, each_so, each_append, each_map, each_gather}
use Rattle.image_laws.proofs.Fields.{Spelt, spelt, name_back}
use Rattle.image_laws.proofs.Placed.{placed}
use Rattle.image_laws.proofs.Tables.{FinePoint, FineOutput, Fine, inputs_back, outputs_back, rules_back}

-- WELL-FORMED BLOCKS: what reading back needs
point_fine : (p : Point) → point_ok p ≡ true → FinePoint p
unfolding point_ok unit_ok
point_fine p h =
    let r = both (in_crisp p.at) (unit_ok p.degree) h in
    (r.0, leb-true _ _ (both (leb p.degree M) (eqb (p.degree % 1000) 0) r.1).0)

term_fine : (t : Term) → term_ok t ≡ true → Spelt t.name × Each FinePoint t.points
unfolding term_ok
term_fine t h =
    let r = passed _ h in
    (spelt t.name r.0, each_so point_fine t.points (each_passes point_ok t.points r.1.1.0))

input_fine : (v : Input) → input_ok v ≡ true → Spelt v.name × Each (λ t. term_ok t ≡ true) v.terms
unfolding input_ok
input_fine v h = let r = passed _ h in (spelt v.name r.0, each_passes term_ok v.terms r.1.1.0)

output_fine : (v : Output) → output_ok v ≡ true → FineOutput v
unfolding output_ok
output_fine v h =
    let r = passed _ h in
    record { name = spelt v.name r.0; range = ends v.range r.1.1.0; default = given v.range v.default r.1.1.1.1.1.0 }
  where
    ends : (g : Option Range) → range_ok g ≡ true → (x : Range) → g ≡ some x → (in_crisp x.least ≡ true) × (in_crisp x.most ≡ true)
    ends none k x e = let z : ◌≡◌ {A = ℕ} 0 1 = cc in absurd (omega arith)
    ends (some y) k x e =
        let a = both (in_crisp y.least) (in_crisp y.most && lt_z y.least y.most) k in
        let q : y ≡ x = cc in
        subst (λ (u : Range). (in_crisp u.least ≡ true) × (in_crisp u.most ≡ true)) q (a.0, (both (in_crisp y.most) (lt_z y.least y.most) a.1).0)

    given : (g : Option Range) (d : Option ℤ) → default_ok g d ≡ true → (x : ℤ) → d ≡ some x → in_crisp x ≡ true
    given g none k x e = let z : ◌≡◌ {A = ℕ} 0 1 = cc in absurd (omega arith)
    given g (some y) k x e =
        let q : y ≡ x = cc in
        subst (λ (u : ℤ). in_crisp u ≡ true) q (both (in_crisp y) (in_range g y) k).0

singletons_fine : (v : Output) → output_ok v ≡ true → Each (λ s. Spelt s.name × (in_crisp s.at ≡ true)) v.terms
unfolding output_ok singleton_ok
singletons_fine v h =
    let r = passed _ h in
    each_so (λ s k.
    let a = both (is_name s.name) (figure_ok v.range s.at) k in
    (spelt s.name a.0, (both (in_crisp s.at) (in_range v.range s.at) a.1).0))
    v.terms (each_passes (singleton_ok v.range) v.terms r.1.1.1.0)

pub fine : (b : Block) → well_formed b ≡ true → Fine b
unfolding well_formed gather
fine b h =
    let r = passed _ h in
    let is = each_so input_fine b.inputs (each_passes input_ok b.inputs r.1.1.1.1.0) in
    let os = each_passes output_ok b.outputs r.1.1.1.1.1.0 in
    let ts = each_so term_fine (input_terms b) (each_gather _ (λ v. v.terms) b.inputs (each_so (λ v k. k.1) b.inputs is)) in
    let ss = each_gather _ (λ v. v.terms) b.outputs (each_so singletons_fine b.outputs os) in
    record {
      name = spelt b.name r.0;
      rule_block = spelt b.rule_block r.1.0;
      inputs = each_so (λ v k. k.0) b.inputs is;
      outputs = each_so output_fine b.outputs os;
      terms' = each_append _ (input_terms b) (map singleton_term (output_terms b)) (each_so (λ t k. k.0) (input_terms b) ts)
          (each_map _ singleton_term (output_terms b) (each_so (λ s k. k.0) (output_terms b) ss));
      points' = each_gather _ (λ t. t.points) (terms b)
          (each_append _ (input_terms b) (map singleton_term (output_terms b)) (each_so (λ t k. k.1) (input_terms b) ts)
          (each_map _ singleton_term (output_terms b) (each_so (λ s k. ((k.1, omega arith), tt)) (output_terms b) ss)));
    }

-- CODES
pair_back : (p : Pair) → pair_of (pair_word p) ≡ p
pair_back MinMax = refl
pair_back ProdAsum = refl
pair_back BdifBsum = refl

accu_back : (a : Accumulation) → accu_of (accu_word a) ≡ a
accu_back Max = refl
accu_back Bsum = refl

act_back : (a : Activation) → act_of (act_word a) ≡ a
act_back Min = refl
act_back Prod = refl

-- the words of a well-formed block stand for it
pub decode_words : (w : ℕ → ℕ) (b : Block) → well_formed b ≡ true → At w 0 (words b) → decode w ≡ b
unfolding decode name_words
decode_words w b h a =
    let f = fine b h in
    let p = placed w b a in
    let n = at_cut w BLOCK_NAME (name_words b.name) (name_words b.rule_block) p.codes.1.1.1.1 in
    let en = name_back w BLOCK_NAME b.name f.name n.0 in
    let er = name_back w RULE_BLOCK_NAME b.rule_block f.rule_block n.1 in
    let ei = ap (λ (k : ℕ). tab (input_at w) k 0) p.inputs ∙ tab_at (input_at w) 0 b.inputs (inputs_back w b f p) in
    let eo = ap (λ (k : ℕ). tab (output_at w) k 0) p.outputs ∙ tab_at (output_at w) 0 b.outputs (outputs_back w b f p) in
    let es = ap (λ (k : ℕ). tab (rule_at w) k 0) p.rules ∙ tab_at (rule_at w) 0 b.rules (rules_back w b f p) in
    let ep = ap pair_of p.codes.0 ∙ pair_back b.pair in
    let ec = ap accu_of p.codes.1.0 ∙ accu_back b.accu in
    let et = ap act_of p.codes.1.1.0 ∙ act_back b.act in
    λ j. record { name = en j; inputs = ei j; outputs = eo j; rule_block = er j; pair = ep j; act = et j; accu = ec j; rules = es j }

pub decode_image : (b : Block) → well_formed b ≡ true → decode (word_at (image b)) ≡ b
unfolding image
decode_image b h = decode_words (word_at (image b)) b h (words_at (words b))

-- an image of a well-formed block is accepted as this block
pub loads_image : (b : Block) → well_formed b ≡ true → loads (image b) ≡ accepted b
unfolding loads is_image_of
loads_image b h =
    let e = decode_image b h in
    let t : is_image_of (image b) b ≡ true = and_i _ _ h (same_refl (image b)) in
    ap (λ (d : Block). if is_image_of (image b) d then accepted d else refused 11 none) e ∙ rw t refl

loaded : (img : List ℕ) (b : Block) → loads img ≡ accepted b → (well_formed b ≡ true) × (img ≡ image b)
unfolding loads is_image_of
loaded img b = go (decode (word_at img)) (is_image_of img (decode (word_at img))) refl
  where
    go : (d : Block) (t : Bool) → is_image_of img d ≡ t → (if t then accepted d else refused 11 none) ≡ accepted b → (well_formed b ≡ true) × (img ≡ image b)
    go d true e h =
        let q : d ≡ b = cc in
        let r = both (well_formed d) (same img (image d)) e in
        subst (λ (x : Block). (well_formed x ≡ true) × (img ≡ image x)) q (r.0, same_eq img (image d) r.1)
    go d false e h = let z : ◌≡◌ {A = ℕ} 0 1 = cc in absurd (omega arith)

-- for every list of numbers: that they are below 256 follows
pub loads_iff : (img : List ℕ) (b : Block) → loads img ≡ accepted b ↔ ((well_formed b ≡ true) × (img ≡ image b))
loads_iff img b = (loaded img b, λ h. ap loads h.1 ∙ loads_image b h.0)
