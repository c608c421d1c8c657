-- VAR_INPUT and VAR_OUTPUT: names are names, each declared once, and no more variables than there may be.
use mathlib.Core.Path.{◌≡◌, refl, sym, ap, ◌∙◌, subst}
use mathlib.Core.Bool.{Bool, true, false, ◌||◌, not}
use mathlib.Core.List.{List, [], ◌∷◌, ◌++◌, map, map-append, append_assoc, append-nil}
use mathlib.Core.Option.{none}
use Prim.Native.Nat.{ℕ, zero, suc, ◌+◌, ◌≤◌}
use native.Mathlib.Omega.{arith}
use borrow.Author.Tests.{ltb-true}
use lib.Dec.{ltb}
use lib.ListN.{length, length-append, length-map, take, drop}
use Rattle.model.specs.Basic.{is_empty, all, distinct}
use Rattle.model.specs.Bounds.{input_limit, output_limit, term_limit}
use Rattle.model.specs.Keywords.{INT, REAL, COLON, SEMICOLON}
use Rattle.model.specs.Tokens.{is_name, same_name}
use Rattle.model.specs.Block.{Input, Output, Block, as_int}
use Rattle.model.specs.declared.InputType.TheVariants.{Real as real}
use Rattle.model.specs.WellFormed.{term_ok, range_ok, singleton_ok, default_ok}
use Rattle.model.specs.Parse.{text, is}
use Rattle.model.specs.Declarations.{input_of, output_of, is_input, is_output, add_input, add_output, int_from, variable, input_count, output_count, input_type, input_declaration, output_declaration}
use Rattle.laws.proofs.Tests.{and_i, clash}
use Rattle.laws.proofs.Each.{Each, each_append}
use Rattle.laws.proofs.Lists.{all_append}
use Rattle.laws.proofs.Finding.{fresh}
use Rattle.reading_laws.proofs.Steps.{Fact, Leads, ◌▹◌, either, good_advance, good_change, good_judged, name_here, good_expect, good_listed}
use Rattle.reading_laws.proofs.Focus.{absent, names_last, not_named}

-- an input, with terms or without them
pub record InputFine (v : Input) : Type 0 where
  pub name : is_name v.name ≡ true
  pub count : length v.terms ≤ term_limit
  pub terms : all term_ok v.terms ≡ true
  pub apart : distinct same_name (map (λ t. t.name) v.terms) ≡ true

-- an output, with terms or without them; without terms it has no default
pub record OutputFine (v : Output) : Type 0 where
  pub name : is_name v.name ≡ true
  pub count : length v.terms ≤ term_limit
  pub range : range_ok v.range ≡ true
  pub terms : all (singleton_ok v.range) v.terms ≡ true
  pub apart : distinct same_name (map (λ t. t.name) v.terms) ≡ true
  pub default : default_ok v.range v.default ≡ true
  pub bare : is_empty v.terms ≡ true → v.default ≡ none

abbrev pub input_names : List Input → List (List ℕ)
input_names = map (λ v. v.name)

abbrev pub output_names : List Output → List (List ℕ)
output_names = map (λ v. v.name)

-- the block's name is n; at least m inputs, which have I, and at least k outputs, which have O
pub record Variables (m k : ℕ) (I : List Input → Type 0) (O : List Output → Type 0) (n : List ℕ) (is : List Input) (os : List Output) : Type 0 where
  pub name : is_name n ≡ true
  pub inputs_least : m ≤ length is
  pub inputs_most : length is ≤ input_limit
  pub outputs_least : k ≤ length os
  pub outputs_most : length os ≤ output_limit
  pub inputs : I is
  pub outputs : O os
  pub apart : distinct same_name (input_names is ++ output_names os) ≡ true

-- no rule yet
pub record Declared (m k : ℕ) (I : List Input → Type 0) (O : List Output → Type 0) (w : ℕ) (b : Block) : Type 0 where
  pub variables : Variables m k I O b.name b.inputs b.outputs
  pub words : w ≡ 0
  pub rules : b.rules ≡ []

abbrev None : List Output → Type 0
None os = os ≡ []

-- inputs are declared before outputs
abbrev pub Inputs : ℕ → Fact
Inputs m = Declared m 0 (Each InputFine) None

abbrev pub Outputs : ℕ → Fact
Outputs k = Declared 1 k (Each InputFine) (Each OutputFine)

-- NEITHER OF THE TWO
neither : (a b : Bool) → not (a || b) ≡ true → (a ≡ false) × (b ≡ false)
neither true b h = clash h
neither false true h = clash h
neither false false h = (refl, refl)

new_name : (w : List ℕ) (b : Block) → not (is_input w b || is_output w b) ≡ true → fresh w (input_names b.inputs ++ output_names b.outputs) ≡ true
unfolding input_of output_of
new_name w b h =
    let n = neither (is_input w b) (is_output w b) h in
    all_append _ (input_names b.inputs) (output_names b.outputs)
    ∙ and_i _ _ (not_named (λ v. v.name) w b.inputs (absent _ b.inputs n.0)) (not_named (λ v. v.name) w b.outputs (absent _ b.outputs n.1))

-- INPUTS
input_added : {m w : ℕ} {b : Block} (n : List ℕ) → is_name n ≡ true → not (is_input n b || is_output n b) ≡ true → ltb (input_count b) input_limit ≡ true
    → Inputs m w b → Inputs 1 w (add_input n b)
unfolding add_input all distinct
input_added {m} {w} {b} n e f l s =
    let v = s.variables in
    let o = v.outputs in
    let a : length (b.inputs ++ (new ∷ [])) ≡ length b.inputs + 1 = length-append b.inputs (new ∷ []) in
    let j = ltb-true (input_count b) input_limit l in
    let p : input_names b.inputs ++ output_names b.outputs ≡ input_names b.inputs =
    ap (λ (os : List Output). input_names b.inputs ++ output_names os) o ∙ append-nil _ in
    let q : input_names (b.inputs ++ (new ∷ [])) ++ output_names b.outputs ≡ input_names b.inputs ++ (n ∷ []) =
    ap (λ (os : List Output). input_names (b.inputs ++ (new ∷ [])) ++ output_names os) o ∙ append-nil _ ∙ map-append (λ v. v.name) b.inputs (new ∷ []) in
    record {
      variables = record {
        name = v.name;
        inputs_least = omega arith;
        inputs_most = omega arith;
        outputs_least = omega arith;
        outputs_most = v.outputs_most;
        inputs = each_append InputFine b.inputs (new ∷ []) v.inputs (record { name = e; count = omega arith; terms = refl; apart = refl }, tt);
        outputs = o;
        apart =
            ap (distinct same_name) q
            ∙ names_last (input_names b.inputs) n (sym (ap (distinct same_name) p) ∙ v.apart) (sym (ap (fresh n) p) ∙ new_name n b f);
      };
      words = s.words;
      rules = s.rules;
    }
  where
    new : Input
    new = record { name = n; type = real; terms = [] }

good_input : {m : ℕ} → Leads (Inputs m) (Inputs 1) (variable add_input input_count input_limit)
unfolding variable
good_input r k =
    good_judged _ r refl (λ c.
    good_advance _ (good_change (add_input (text r)) r (λ g. input_added (text r) (name_here g c.0 c.1.0) c.1.1.0 c.1.1.1.0 g.fact) k))

-- INT changes neither names nor terms
int_names : (n : ℕ) (vs : List Input) → input_names (take n vs ++ map as_int (drop n vs)) ≡ input_names vs
int_names zero [] = refl
int_names zero (v ∷ vs) = ap (λ (l : List (List ℕ)). v.name ∷ l) (int_names zero vs)
int_names (suc n) [] = refl
int_names (suc n) (v ∷ vs) = ap (λ (l : List (List ℕ)). v.name ∷ l) (int_names n vs)

int_fine : (n : ℕ) (vs : List Input) → Each InputFine vs → Each InputFine (take n vs ++ map as_int (drop n vs))
int_fine zero [] h = tt
int_fine zero (v ∷ vs) h = let f = h.0 in (record { name = f.name; count = f.count; terms = f.terms; apart = f.apart }, int_fine zero vs h.1)
int_fine (suc n) [] h = tt
int_fine (suc n) (v ∷ vs) h = (h.0, int_fine n vs h.1)

-- inputs under the same names
pub renamed : {m k : ℕ} {I J : List Input → Type 0} {O P : List Output → Type 0} {n : List ℕ} {is js : List Input} {os ps : List Output}
    → input_names js ≡ input_names is → output_names ps ≡ output_names os → J js → P ps → Variables m k I O n is os → Variables m k J P n js ps
renamed {is = is} {js} {os} {ps} e f j p v =
    let a : length js ≡ length is = sym (length-map js (λ v. v.name)) ∙ ap length e ∙ length-map is (λ v. v.name) in
    let c : length ps ≡ length os = sym (length-map ps (λ v. v.name)) ∙ ap length f ∙ length-map os (λ v. v.name) in
    record {
      name = v.name;
      inputs_least = rw a v.inputs_least;
      inputs_most = rw a v.inputs_most;
      outputs_least = rw c v.outputs_least;
      outputs_most = rw c v.outputs_most;
      inputs = j;
      outputs = p;
      apart = rw (e, f) v.apart;
    }

pub declared_so : {m k : ℕ} {I J : List Input → Type 0} {O P : List Output → Type 0} {w : ℕ} {b : Block} → (I b.inputs → J b.inputs)
    → (O b.outputs → P b.outputs) → Declared m k I O w b → Declared m k J P w b
declared_so f g s =
    let v = s.variables in
    record { variables = renamed refl refl (f v.inputs) (g v.outputs) v; words = s.words; rules = s.rules }

good_type : {m : ℕ} (n : ℕ) → Leads (Inputs m) (Inputs m) (input_type n)
unfolding input_type int_from
good_type n r k =
    either (is INT r)
    (λ h. good_advance _ (good_change (int_from n) r (λ g.
    let s = g.fact in
    let v = s.variables in
    record {
      variables = renamed (int_names n r.block.inputs) refl (int_fine n r.block.inputs v.inputs) v.outputs v;
      words = s.words;
      rules = s.rules;
    }) k))
    (good_expect REAL r k)

pub good_inputs : {m : ℕ} → Leads (Inputs m) (Inputs 1) input_declaration
unfolding input_declaration
good_inputs r k = k ▹ good_listed good_input good_input ▹ good_expect COLON ▹ good_type _ ▹ good_expect SEMICOLON

-- OUTPUTS
pub no_outputs : {w : ℕ} {b : Block} → Inputs 1 w b → Outputs 0 w b
no_outputs {w} {b} = declared_so (λ x. x) (λ e. subst (Each OutputFine) (sym e) tt)

output_added : {k w : ℕ} {b : Block} (n : List ℕ) → is_name n ≡ true → not (is_input n b || is_output n b) ≡ true → ltb (output_count b) output_limit ≡ true
    → Outputs k w b → Outputs 1 w (add_output n b)
unfolding add_output all distinct
output_added {k} {w} {b} n e f l s =
    let v = s.variables in
    let a : length (b.outputs ++ (new ∷ [])) ≡ length b.outputs + 1 = length-append b.outputs (new ∷ []) in
    let j = ltb-true (output_count b) output_limit l in
    let q : input_names b.inputs ++ output_names (b.outputs ++ (new ∷ [])) ≡ (input_names b.inputs ++ output_names b.outputs) ++ (n ∷ []) =
    ap (λ (ns : List (List ℕ)). input_names b.inputs ++ ns) (map-append (λ v. v.name) b.outputs (new ∷ []))
    ∙ sym (append_assoc (input_names b.inputs) (output_names b.outputs) (n ∷ [])) in
    record {
      variables = record {
        name = v.name;
        inputs_least = v.inputs_least;
        inputs_most = v.inputs_most;
        outputs_least = omega arith;
        outputs_most = omega arith;
        inputs = v.inputs;
        outputs =
            each_append OutputFine b.outputs (new ∷ []) v.outputs
            (record { name = e; count = omega arith; range = refl; terms = refl; apart = refl; default = refl; bare = λ z. refl }, tt);
        apart = ap (distinct same_name) q ∙ names_last (input_names b.inputs ++ output_names b.outputs) n v.apart (new_name n b f);
      };
      words = s.words;
      rules = s.rules;
    }
  where
    new : Output
    new = record { name = n; terms = []; range = none; default = none }

good_output : {k : ℕ} → Leads (Outputs k) (Outputs 1) (variable add_output output_count output_limit)
unfolding variable
good_output r k =
    good_judged _ r refl (λ c.
    good_advance _ (good_change (add_output (text r)) r (λ g. output_added (text r) (name_here g c.0 c.1.0) c.1.1.0 c.1.1.1.0 g.fact) k))

pub good_outputs : {k : ℕ} → Leads (Outputs k) (Outputs 1) output_declaration
unfolding output_declaration
good_outputs r k = k ▹ good_listed good_output good_output ▹ good_expect COLON ▹ good_expect REAL ▹ good_expect SEMICOLON
