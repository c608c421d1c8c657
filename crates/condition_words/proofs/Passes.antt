-- A pass over the words of a condition leaves its meaning; and words that leave one meaning are those of a condition.
use mathlib.Core.Path.{◌≡◌, refl, sym, ap, ◌∙◌}
use mathlib.Core.List.{List, [], ◌∷◌, ◌++◌, append_assoc, append-nil, map}
use mathlib.Core.Bool.{Bool, true, false}
use mathlib.Core.Option.{Option, none, some}
use Prim.Native.Nat.{ℕ, suc, ◌+◌, ◌-◌, ◌≤◌, ◌<◌}
use native.Mathlib.Omega.{arith}
use borrow.Author.Tests.{lt-ltb, ltb-true, le-leb, eqb-true, leb-true}
use lib.Dec.{leb, ltb, eqb}
use lib.ListN.{length}
use Rattle.model.specs.Basic.{tab}
use Rattle.model.specs.Bounds.{depth_limit}
use Rattle.model.specs.Block.{Op, and, or, Condition, term, neg, two}
use Rattle.model.specs.Parentheses.{depth}
use Rattle.model.specs.Image.{NOT_WORD, TERM_WORD, postfix, op_word}
use Rattle.condition_words.specs.Machine.{Meaning, room, added, unary, binary, step, turn}
use Rattle.condition_words.proofs.Room.{HasRoom, fits, fits_left, fits_right, fits_neg, fits_one}

pub none_some : {A : Type 0} (x : A) → ◌≡◌ {A = Option A} none (some x) → ⊥
none_some x e = let z : ◌≡◌ {A = ℕ} 0 1 = cc in omega arith

-- what a condition means
unfoldable pub fold : {A : Type 0} → Meaning A → Condition → A
fold g (term t) = g.leaf t
fold g (neg c) = g.no (fold g c)
fold g (two o a b) = g.join o (fold g a) (fold g b)

-- all words, one after the other
unfoldable pub pass : {A : Type 0} → Meaning A → List ℕ → Option (List A) → Option (List A)
pass g [] s = s
pass g (w ∷ ws) s = pass g ws (turn g w s)

module _ {A : Type 0} (g : Meaning A) where
  -- every term is known, and every subtree may stand on the stack
  unfoldable pub Allowed : Condition → Type 0
  Allowed (term t) = (g.known t ≡ true) × (g.fine (g.leaf t) ≡ true)
  Allowed (neg c) = Allowed c × (g.fine (fold g (neg c)) ≡ true)
  Allowed (two o a b) = (Allowed a × Allowed b) × (g.fine (fold g (two o a b)) ≡ true)

  pub allowed_fine : (c : Condition) → Allowed c → g.fine (fold g c) ≡ true
  unfolding Allowed fold
  allowed_fine (term t) h = h.1
  allowed_fine (neg c) h = h.1
  allowed_fine (two o a b) h = h.1

  -- A CONDITION'S WORDS
  added_ok : (x : A) (st : List A) → g.fine x ≡ true → length st < g.places → added g x st ≡ some (x ∷ st)
  unfolding added
  added_ok x st e h = simp (e, lt-ltb (length st) g.places h)

  step_term : (t : ℕ) (st : List A) → g.known t ≡ true → step g (TERM_WORD + t) st ≡ added g (g.leaf t) st
  unfolding step
  step_term t st e =
      let q : TERM_WORD + t - TERM_WORD ≡ t = omega arith in
      simp (le-leb TERM_WORD (TERM_WORD + t) (omega arith), q, e)

  step_two : (o : Op) (st : List A) → step g (op_word o) st ≡ binary g o st
  unfolding step
  step_two and st = refl
  step_two or st = refl

  step_neg : (st : List A) → step g NOT_WORD st ≡ unary g st
  unfolding step
  step_neg st = refl

  pub pass_on : (c : Condition) (rest : List ℕ) (st : List A) → Allowed c → HasRoom g.places c (length st)
      → pass g (postfix c ++ rest) (some st) ≡ pass g rest (some (fold g c ∷ st))
  unfolding pass turn postfix fold Allowed unary binary
  pass_on (term t) rest st (k, f) h = ap (pass g rest) (step_term t st k ∙ added_ok (g.leaf t) st f (fits_one g.places (term t) _ h))
  pass_on (neg c) rest st (k, f) h =
      rw append_assoc (pass_on c (NOT_WORD ∷ rest) st k (fits_neg g.places c _ h)
      ∙ ap (pass g rest) (step_neg (fold g c ∷ st) ∙ added_ok (g.no (fold g c)) st f (fits_one g.places (neg c) _ h)))
  pass_on (two o a b) rest st ((ka, kb), f) h =
      simp append_assoc (pass_on a (postfix b ++ (op_word o ∷ rest)) st ka (fits_left g.places o a b _ h)
      ∙ pass_on b (op_word o ∷ rest) (fold g a ∷ st) kb (fits_right g.places o a b _ h)
      ∙ ap (pass g rest) (step_two o (fold g b ∷ fold g a ∷ st) ∙ added_ok (g.join o (fold g a) (fold g b)) st f (fits_one g.places (two o a b) _ h)))

  pub pass_postfix : (c : Condition) → Allowed c → depth c ≤ depth_limit → room ≤ g.places → pass g (postfix c) (some []) ≡ some (fold g c ∷ [])
  unfolding pass
  pass_postfix c k d h = rw (append-nil (postfix c)) at (pass_on c [] [] k (fits g.places c 0 d h))

  -- WHAT IS ACCEPTED
  -- the words behind a stack of trees, the top last
  unfoldable words : List Condition → List ℕ
  words [] = []
  words (c ∷ cs) = words cs ++ postfix c

  unfoldable AllAllowed : List Condition → Type 0
  AllAllowed [] = Unit {0}
  AllAllowed (c ∷ cs) = Allowed c × AllAllowed cs

  pub added_in : (x : A) (st st' : List A) → added g x st ≡ some st' → (g.fine x ≡ true) × (st' ≡ x ∷ st) × (length st < g.places)
  unfolding added
  added_in x st st' e = go (g.fine x) (ltb (length st) g.places) refl refl
    where
      go : (b₁ b₂ : Bool) → g.fine x ≡ b₁ → ltb (length st) g.places ≡ b₂
          → (g.fine x ≡ true) × (st' ≡ x ∷ st) × (length st < g.places)
      go true true e₁ e₂ = let q = simp (e₁, e₂) at e in (e₁, cc, ltb-true (length st) g.places e₂)
      go true false e₁ e₂ = absurd (none_some st' (simp (e₁, e₂) at e))
      go false b₂ e₁ e₂ = absurd (none_some st' (simp e₁ at e))

  -- the words ws on top of the trees cs leave the stack st
  unfoldable Made : List Condition → List ℕ → List A → Type 0
  Made cs ws st = (ds : List Condition) × (st ≡ map (fold g) ds) × AllAllowed ds × (words ds ≡ words cs ++ ws)

  unary_in : (cs : List Condition) (st : List A) → AllAllowed cs → unary g (map (fold g) cs) ≡ some st → Made cs (NOT_WORD ∷ []) st
  unfolding unary AllAllowed Made words postfix Allowed fold
  unary_in [] st gs e = absurd (none_some st e)
  unary_in (c ∷ cs) st (k, gs) e =
      let q = added_in (g.no (fold g c)) (map (fold g) cs) st e in
      (neg c ∷ cs, q.1, ((k, q.0), gs), simp append_assoc)

  binary_in : (o : Op) (cs : List Condition) (st : List A) → AllAllowed cs → binary g o (map (fold g) cs) ≡ some st → Made cs (op_word o ∷ []) st
  unfolding binary AllAllowed Made words postfix Allowed fold
  binary_in o [] st gs e = absurd (none_some st e)
  binary_in o (b ∷ []) st gs e = absurd (none_some st e)
  binary_in o (b ∷ a ∷ cs) st (kb, (ka, gs)) e =
      let q = added_in (g.join o (fold g a) (fold g b)) (map (fold g) cs) st e in
      (two o a b ∷ cs, q.1, (((ka, kb), q.0), gs), simp append_assoc)

  step_in : (w : ℕ) (cs : List Condition) (st : List A) → AllAllowed cs → step g w (map (fold g) cs) ≡ some st → Made cs (w ∷ []) st
  unfolding step AllAllowed Made words postfix Allowed fold
  step_in w cs st gs e = go (leb TERM_WORD w) (g.known (w - TERM_WORD)) (eqb w NOT_WORD) (eqb w (op_word and)) (eqb w (op_word or)) refl refl refl refl refl
    where
      go : (b₁ b₂ b₃ b₄ b₅ : Bool) → leb TERM_WORD w ≡ b₁ → g.known (w - TERM_WORD) ≡ b₂ → eqb w NOT_WORD ≡ b₃
          → eqb w (op_word and) ≡ b₄ → eqb w (op_word or) ≡ b₅ → Made cs (w ∷ []) st
      go true true b₃ b₄ b₅ e₁ e₂ e₃ e₄ e₅ =
          let q = added_in (g.leaf (w - TERM_WORD)) (map (fold g) cs) st (simp (e₁, e₂) at e) in
          let s : TERM_WORD + (w - TERM_WORD) ≡ w = omega (arith, leb-true TERM_WORD w e₁) in
          (term (w - TERM_WORD) ∷ cs, q.1, ((e₂, q.0), gs), rw s refl)
      go true false b₃ b₄ b₅ e₁ e₂ e₃ e₄ e₅ = absurd (none_some st (simp (e₁, e₂) at e))
      go false b₂ true b₄ b₅ e₁ e₂ e₃ e₄ e₅ = rw (eqb-true w NOT_WORD e₃) (unary_in cs st gs (simp (e₁, e₃) at e))
      go false b₂ false true b₅ e₁ e₂ e₃ e₄ e₅ = rw (eqb-true w (op_word and) e₄) (binary_in and cs st gs (simp (e₁, e₃, e₄) at e))
      go false b₂ false false true e₁ e₂ e₃ e₄ e₅ = rw (eqb-true w (op_word or) e₅) (binary_in or cs st gs (simp (e₁, e₃, e₄, e₅) at e))
      go false b₂ false false false e₁ e₂ e₃ e₄ e₅ = absurd (none_some st (simp (e₁, e₃, e₄, e₅) at e))

  pass_none : (ws : List ℕ) → pass g ws none ≡ none
  unfolding pass turn
  pass_none [] = refl
  pass_none (w ∷ ws) = pass_none ws

  pass_in : (ws : List ℕ) (cs : List Condition) (st : List A) → AllAllowed cs → pass g ws (some (map (fold g) cs)) ≡ some st → Made cs ws st
  unfolding pass turn Made
  pass_in [] cs st gs e = (cs, cc, gs, sym (append-nil (words cs)))
  pass_in (w ∷ ws) cs st gs e = go (λ ds gd. pass_in ws ds st gd) (step g w (map (fold g) cs)) refl e
    where
      go : ((ds : List Condition) → AllAllowed ds → pass g ws (some (map (fold g) ds)) ≡ some st → Made ds ws st)
          → (s : Option (List A)) → step g w (map (fold g) cs) ≡ s → pass g ws s ≡ some st → Made cs (w ∷ ws) st
      go ih none q f = absurd (none_some st (sym (pass_none ws) ∙ f))
      go ih (some s) q f =
          let m = step_in w cs s gs q in
          let r = ih m.0 m.2 (rw m.1 at f) in
          (r.0, r.1, r.2, r.3 ∙ ap (λ (l : List ℕ). l ++ ws) m.3 ∙ append_assoc (words cs) (w ∷ []) ws)

  pub pass_one : (ws : List ℕ) (x : A) → pass g ws (some []) ≡ some (x ∷ []) → (c : Condition) × (ws ≡ postfix c) × Allowed c
  unfolding AllAllowed words Made
  pass_one ws x e = go (pass_in ws [] (x ∷ []) tt e)
    where
      go : Made [] ws (x ∷ []) → (c : Condition) × (ws ≡ postfix c) × Allowed c
      go ([], q, gs, p) = absurd (let z : ◌≡◌ {A = ℕ} 0 1 = cc in omega arith)
      go (c ∷ [], q, gs, p) = (c, sym p, gs.0)
      go (c ∷ d ∷ l, q, gs, p) = absurd (let z : ◌≡◌ {A = ℕ} 0 1 = cc in omega arith)

  -- A PASS OVER n WORDS OF f FROM d ON, i of them read
  module _ (f : ℕ → ℕ) (d n i : ℕ) where
    unfoldable pub Left : Option (List A) → Type 0
    Left s = pass g (tab f (n - i) (d + i)) s ≡ pass g (tab f n d) (some [])

    pub left_end : (s : Option (List A)) → n ≤ i → Left s → s ≡ pass g (tab f n d) (some [])
    unfolding Left pass tab
    left_end s h p = let q : n - i ≡ 0 = omega arith in rw q at p

    pub left_none : Left none → pass g (tab f n d) (some []) ≡ none
    unfolding Left
    left_none p = sym p ∙ pass_none (tab f (n - i) (d + i))

  pub left_start : (f : ℕ → ℕ) (d n : ℕ) → Left f d n 0 (some [])
  unfolding Left
  left_start f d n =
      let q : n - 0 ≡ n = omega arith in
      let k : d + 0 ≡ d = omega arith in
      rw (q, k) refl

  pub left_turn : (f : ℕ → ℕ) (d n i w : ℕ) (s s' : Option (List A)) → i < n → w ≡ f (d + i) → s' ≡ turn g w s → Left f d n i s → Left f d n (i + 1) s'
  unfolding Left pass tab
  left_turn f d n i w s s' h e t p =
      let q : n - i ≡ suc (n - (i + 1)) = omega arith in
      let k : d + (i + 1) ≡ suc (d + i) = omega arith in
      rw (t, e, k) (rw q at p)

  -- where the whole leaves something, so does each word
  pub left_more : (f : ℕ → ℕ) (d n i w : ℕ) (st x : List A) → pass g (tab f n d) (some []) ≡ some x → i < n → w ≡ f (d + i) → Left f d n i (some st)
      → (s : List A) × (turn g w (some st) ≡ some s) × Left f d n (i + 1) (some s)
  left_more f d n i w st x q h e p = go (turn g w (some st)) refl
    where
      go : (o : Option (List A)) → turn g w (some st) ≡ o → (s : List A) × (turn g w (some st) ≡ some s) × Left f d n (i + 1) (some s)
      go none r = absurd (none_some x (sym (left_none f d n (i + 1) (left_turn f d n i w (some st) none h e (sym r) p)) ∙ q))
      go (some s) r = (s, r, left_turn f d n i w (some st) (some s) h e (sym r) p)
