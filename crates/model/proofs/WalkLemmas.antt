-- Walks by names through numbered directories, and what a change of one or two names does to them.
use Rattle.std.proofs.Common.{◌≡◌, ◌≢◌, ◌⊎◌, inl, inr, ℕ, ◌==◌, [], ◌∷◌, ◌++◌, fold, length, true, ◌&&◌, Option, Some, None, bytes_eq, refl, sym, ap, subst, ◌∙◌, append_assoc, append-nil, length-append, arith}
use Rattle.std.proofs.lemmas.Bool.{cases_Bool, cond_both, cond-true, cond-false, eqb-true, eq-eqb, and_parts, and_from, false≢true, false_from_ne_true}
use Rattle.std.proofs.lemmas.List.{same_from_push}
use Rattle.std.proofs.lemmas.List.Sums.{fold_push}
use Rattle.std.proofs.lemmas.Slice.Eq.{bytes_eq-Decides, slice_eq-Decides}
use Rattle.model.specs.Paths.{Name, Path, behind, path_eq}
use Rattle.model.specs.Edits.{put_at, relocate, relocated}
use Rattle.model.specs.Volumes.{Entries, enter, number_at, with_edge}

pub same_bytes : (x y : Name) → bytes_eq x y ≡ true → x ≡ y
same_bytes x y e = (bytes_eq-Decides x y).0 e

pub bytes_eq-same : (x : Name) → bytes_eq x x ≡ true
bytes_eq-same x = (bytes_eq-Decides x x).1 refl

pub path_eq-same : (p : Path) → path_eq p p ≡ true
path_eq-same p = (slice_eq-Decides bytes_eq-Decides p p (path_eq p p) refl).1 refl

pub same_path : (p q : Path) → path_eq p q ≡ true → p ≡ q
same_path p q e = (slice_eq-Decides bytes_eq-Decides p q (path_eq p q) refl).0 e

-- paths and what stands behind a front

pub behind-is : (q r w : Path) → behind q r ≡ Some w → r ≡ q ++ w
behind-is [] r w e = cc
behind-is (x ∷ q) [] w e = cc
behind-is (x ∷ q) (y ∷ r) w e =
    elim (cases_Bool (bytes_eq x y)) [
      | inl s ↦ let rest : r ≡ q ++ w = behind-is q r w (sym (cond-true (bytes_eq x y) (behind q r) None s) ∙ e) in let same : x ≡ y = same_bytes x y s in cc
      | inr s ↦ let none : None ≡ Some w = sym (cond-false (bytes_eq x y) (behind q r) None s) ∙ e in cc
    ]

pub behind-append : (q w : Path) → behind q (q ++ w) ≡ Some w
behind-append [] w = refl
behind-append (x ∷ q) w = cond-true (bytes_eq x x) (behind q (q ++ w)) None (bytes_eq-same x) ∙ behind-append q w

pub behind-empty : (q : Path) (x : Name) → behind (q ++ x ∷ []) [] ≡ None
behind-empty [] x = refl
behind-empty (y ∷ q) x = refl

-- a path and one more name: within what begins with q, or q itself, or outside
pub data Pushed (q u : Path) (x : Name) : Type 0 where
  inside : (w : Path) → behind q u ≡ Some w → behind q (u ++ x ∷ []) ≡ Some (w ++ x ∷ []) → Pushed q u x
  here : behind q u ≡ None → u ++ x ∷ [] ≡ q → behind q (u ++ x ∷ []) ≡ Some [] → Pushed q u x
  outside : behind q u ≡ None → u ++ x ∷ [] ≢ q → behind q (u ++ x ∷ []) ≡ None → Pushed q u x

pushed_more : (y z : Name) (q u : Path) (x : Name) → bytes_eq y z ≡ true → Pushed q u x → Pushed (y ∷ q) (z ∷ u) x
pushed_more y z q u x s (inside w a b) = inside w (cond-true (bytes_eq y z) _ _ s ∙ a) (cond-true (bytes_eq y z) _ _ s ∙ b)
pushed_more y z q u x s (here a e b) = let same : y ≡ z = same_bytes y z s in here (cond-true (bytes_eq y z) _ _ s ∙ a) (cc) (cond-true (bytes_eq y z) _ _ s ∙ b)
pushed_more y z q u x s (outside a e b) = outside (cond-true (bytes_eq y z) _ _ s ∙ a) (λ same. e (cc)) (cond-true (bytes_eq y z) _ _ s ∙ b)

pub pushed : (q u : Path) (x : Name) → Pushed q u x
pushed [] u x = inside u refl refl
pushed (y ∷ q) (z ∷ u) x =
    elim (cases_Bool (bytes_eq y z)) [
      | inl s ↦ pushed_more y z q u x s (pushed q u x)
      | inr s ↦ outside (cond-false (bytes_eq y z) _ _ s) (λ e. let same : y ≡ z = cc in false≢true (sym s ∙ subst (λ n. bytes_eq y n ≡ true) same (bytes_eq-same y))) (cond-false (bytes_eq y z) _ _ s)
    ]
pushed (y ∷ []) [] x =
    elim (cases_Bool (bytes_eq y x)) [
      | inl s ↦ let same : y ≡ x = same_bytes y x s in here refl (cc) (cond-true (bytes_eq y x) _ _ s)
      | inr s ↦ outside refl (λ e. let same : y ≡ x = cc in false≢true (sym s ∙ subst (λ n. bytes_eq y n ≡ true) same (bytes_eq-same y))) (cond-false (bytes_eq y x) _ _ s)
    ]
pushed (y ∷ (w ∷ q)) [] x = outside refl (λ e. cc) (cond_both (bytes_eq y x) None None (λ o. o ≡ None) (λ s. refl) (λ s. refl))

-- a map on paths that goes on as the entries do is the walk
module _ (e : Entries) (f : Path → Option ℕ) (step : (u : Path) (x : Name) → f (u ++ x ∷ []) ≡ enter e (f u) x) where
  goes : (r u : Path) → f (u ++ r) ≡ fold (enter e) (f u) r
  goes [] u = ap f (append-nil u)
  goes (x ∷ r) u = ap f (sym (append_assoc u (x ∷ []) r)) ∙ goes r (u ++ x ∷ []) ∙ ap (λ o. fold (enter e) o r) (step u x)

  pub determined : f [] ≡ Some 3 → (r : Path) → number_at e r ≡ f r
  determined start r = sym (goes r [] ∙ ap (λ o. fold (enter e) o r) start)

pub number_at-push : (e : Entries) (u : Path) (x : Name) → number_at e (u ++ x ∷ []) ≡ enter e (number_at e u) x
number_at-push e u x = fold_push (enter e) (Some 3) u x

-- an edge that was set, and the others
pub edge_here : (d : ℕ) (x : Name) (to : Option ℕ) (e : Entries) → with_edge d x to e d x ≡ to
edge_here d x to e = cond-true (d == d && bytes_eq x x) to (e d x) (and_from (d == d) (bytes_eq x x) (eq-eqb d d refl) (bytes_eq-same x))

pub edge_other : (d n : ℕ) (x y : Name) (to : Option ℕ) (e : Entries) → (n ≡ d → y ≢ x) → with_edge d x to e n y ≡ e n y
edge_other d n x y to e other =
    cond-false (n == d && bytes_eq y x) to (e n y) (false_from_ne_true (n == d && bytes_eq y x) (λ t. let both = and_parts (n == d) (bytes_eq y x) t in other (eqb-true n d both.0) (same_bytes y x both.1)))

pub edge_from : (d n : ℕ) (x y : Name) (to : Option ℕ) (e : Entries) (o : Option ℕ) → with_edge d x to e n y ≡ o → ((n ≡ d) × (y ≡ x) × (to ≡ o)) ⊎ ((n ≡ d → y ≢ x) × (e n y ≡ o))
edge_from d n x y to e o is =
    elim (cases_Bool (n == d && bytes_eq y x)) [
      | inl t ↦ let both = and_parts (n == d) (bytes_eq y x) t in inl (eqb-true n d both.0, same_bytes y x both.1, sym (cond-true (n == d && bytes_eq y x) to (e n y) t) ∙ is)
      | inr f ↦ inr ((λ same name. false≢true (sym f ∙ and_from (n == d) (bytes_eq y x) (eq-eqb n d same) (subst (λ z. bytes_eq y z ≡ true) name (bytes_eq-same y)))), sym (cond-false (n == d && bytes_eq y x) to (e n y) f) ∙ is)
    ]

pub relocated-is : (p q : Path) (f : Path → Option ℕ) (r : Path) (a b : Option Path) → behind q r ≡ a → behind p r ≡ b → relocated p q f r ≡ relocate a b p f r
relocated-is p q f r a b ea eb = cc

pub longer : (p w : Path) (x : Name) → (p ++ w) ++ x ∷ [] ≢ p
longer p w x e = let n : length ((p ++ w) ++ x ∷ []) ≡ length p = ap length e in omega (arith, length-append (p ++ w) (x ∷ []), length-append p w, n)

-- An object goes from one name, a in the directory d at u, to another, b in the directory k at v, which isn't below it.
-- Each of the two directories stands at one path.
module _ (e : Entries) (u v : Path) (a b : Name) (d k n : ℕ) (at_d : number_at e u ≡ Some d) (at_k : number_at e v ≡ Some k) (there : e d a ≡ Some n) (alone_d : (w : Path) → number_at e w ≡ Some d → w ≡ u) (alone_k : (w : Path) → number_at e w ≡ Some k → w ≡ v) (apart : behind (u ++ a ∷ []) v ≡ None) (other : u ++ a ∷ [] ≢ v ++ b ∷ []) where
  abbrev before : Path
  before = u ++ a ∷ []

  abbrev after : Path
  after = v ++ b ∷ []

  abbrev new : Entries
  new = with_edge k b (Some n) (with_edge d a None e)

  abbrev found : Path → Option ℕ
  found = relocated before after (number_at e)

  -- away from the two names the entries stay
  stays : (w : Path) (x : Name) → w ++ x ∷ [] ≢ before → w ++ x ∷ [] ≢ after → (o : Option ℕ) → number_at e w ≡ o → enter new o x ≡ enter e o x
  stays w x not_before not_after None at_w = refl
  stays w x not_before not_after (Some m) at_w =
      edge_other k m b x (Some n) (with_edge d a None e) (λ same is. not_after (let p : w ≡ v = alone_k w (cc) in cc))
      ∙ edge_other d m a x None e (λ same is. not_before (let p : w ≡ u = alone_d w (cc) in cc))

  goes_on : (w : Path) (x : Name) → w ++ x ∷ [] ≢ before → w ++ x ∷ [] ≢ after → number_at e (w ++ x ∷ []) ≡ enter new (number_at e w) x
  goes_on w x not_before not_after = number_at-push e w x ∙ sym (stays w x not_before not_after (number_at e w) refl)

  step : (r : Path) (x : Name) → found (r ++ x ∷ []) ≡ enter new (found r) x
  step r x =
      elim (pushed after r x) [
        | inside w in_r in_rx ↦
            relocated-is before after (number_at e) (r ++ x ∷ []) (Some (w ++ x ∷ [])) _ in_rx refl
            ∙ ap (number_at e) (sym (append_assoc before w (x ∷ [])))
            ∙ goes_on (before ++ w) x (longer before w x) (λ is. let back : before ++ w ≡ v = (same_from_push (before ++ w) v x b is).0 in let some : None ≡ Some w = sym apart ∙ ap (behind before) (sym back) ∙ behind-append before w in cc)
            ∙ ap (λ o. enter new o x) (sym (relocated-is before after (number_at e) r (Some w) _ in_r refl))
        | here out_r is in_rx ↦
            let back = same_from_push r v x b is in
            let out_p : behind before r ≡ None = ap (behind before) back.0 ∙ apart in
            relocated-is before after (number_at e) (r ++ x ∷ []) (Some []) _ in_rx refl
            ∙ ap (number_at e) (append-nil before) ∙ number_at-push e u a ∙ ap (λ o. enter e o a) at_d ∙ there
            ∙ sym (edge_here k b (Some n) (with_edge d a None e)) ∙ ap (λ y. new k y) (sym back.1)
            ∙ ap (λ o. enter new o x) (sym at_k ∙ ap (number_at e) (sym back.0) ∙ sym (relocated-is before after (number_at e) r None None out_r out_p))
        | outside out_r not_after out_rx ↦ elim (pushed before r x) [
          | inside w in_r in_rx ↦
              relocated-is before after (number_at e) (r ++ x ∷ []) None (Some (w ++ x ∷ [])) out_rx in_rx
              ∙ ap (λ o. enter new o x) (sym (relocated-is before after (number_at e) r None (Some w) out_r in_r))
          | here out_p is in_rx ↦
              let back = same_from_push r u x a is in
              relocated-is before after (number_at e) (r ++ x ∷ []) None (Some []) out_rx in_rx
              ∙ sym (edge_here d a None e)
              ∙ sym (edge_other k d b a (Some n) (with_edge d a None e) (λ same name. other (let p : u ≡ v = alone_k u (at_d ∙ ap (λ m. Some m) same) in cc)))
              ∙ ap (λ y. new d y) (sym back.1)
              ∙ ap (λ o. enter new o x) (sym at_d ∙ ap (number_at e) (sym back.0) ∙ sym (relocated-is before after (number_at e) r None None out_r out_p))
          | outside out_p not_before out_px ↦
              relocated-is before after (number_at e) (r ++ x ∷ []) None None out_rx out_px
              ∙ goes_on r x not_before not_after
              ∙ ap (λ o. enter new o x) (sym (relocated-is before after (number_at e) r None None out_r out_p))
        ]
      ]

  starts : found [] ≡ Some 3
  starts = relocated-is before after (number_at e) [] None None (behind-empty v b) (behind-empty u a)

  -- the walk after the move is the walk before it, moved
  pub number_at-moved : (r : Path) → number_at new r ≡ found r
  number_at-moved r = determined new found step starts r

pub not_push : (v : Path) (b : Name) → v ≢ v ++ b ∷ []
not_push v b e = let n : length v ≡ length (v ++ b ∷ []) = ap length e in omega (arith, length-append v (b ∷ []), n)

-- The name b in the directory k at v comes to lead to something without names, or to nothing. So did it before.
module _ (e : Entries) (v : Path) (b : Name) (k : ℕ) (to : Option ℕ) (at_k : number_at e v ≡ Some k) (alone_k : (w : Path) → number_at e w ≡ Some k → w ≡ v) (bare : (x : Name) → number_at e ((v ++ b ∷ []) ++ x ∷ []) ≡ None) (leaf : (x : Name) → enter (with_edge k b to e) to x ≡ None) where
  abbrev place : Path
  place = v ++ b ∷ []

  abbrev put : Path → Option ℕ
  put = put_at place to (number_at e)

  put-here : (r : Path) → r ≡ place → put r ≡ to
  put-here r is = cond-true (path_eq r place) to (number_at e r) (subst (λ q. path_eq r q ≡ true) is (path_eq-same r))

  put-other : (r : Path) → r ≢ place → put r ≡ number_at e r
  put-other r other = cond-false (path_eq r place) to (number_at e r) (false_from_ne_true (path_eq r place) (λ t. other (same_path r place t)))

  put-stays : (w : Path) (x : Name) → w ++ x ∷ [] ≢ place → (o : Option ℕ) → number_at e w ≡ o → enter (with_edge k b to e) o x ≡ enter e o x
  put-stays w x other None at_w = refl
  put-stays w x other (Some m) at_w = edge_other k m b x to e (λ same is. other (let p : w ≡ v = alone_k w (cc) in cc))

  put-step : (r : Path) (x : Name) → put (r ++ x ∷ []) ≡ enter (with_edge k b to e) (put r) x
  put-step r x =
      elim (cases_Bool (path_eq (r ++ x ∷ []) place)) [
        | inl t ↦
            let is = same_path (r ++ x ∷ []) place t in
            let back = same_from_push r v x b is in
            put-here (r ++ x ∷ []) is ∙ sym (edge_here k b to e) ∙ ap (λ y. with_edge k b to e k y) (sym back.1)
            ∙ ap (λ o. enter (with_edge k b to e) o x) (sym at_k ∙ ap (number_at e) (sym back.0) ∙ sym (put-other r (λ same. not_push v b (sym back.0 ∙ same))))
        | inr f ↦
            let other : r ++ x ∷ [] ≢ place = λ is. false≢true (sym f ∙ subst (λ q. path_eq (r ++ x ∷ []) q ≡ true) is (path_eq-same (r ++ x ∷ []))) in
            elim (cases_Bool (path_eq r place)) [
              | inl t ↦
                  let is = same_path r place t in
                  put-other (r ++ x ∷ []) other ∙ ap (λ p. number_at e (p ++ x ∷ [])) is ∙ bare x ∙ sym (leaf x)
                  ∙ ap (λ o. enter (with_edge k b to e) o x) (sym (put-here r is))
              | inr g ↦
                  let not_here : r ≢ place = λ is. false≢true (sym g ∙ subst (λ q. path_eq r q ≡ true) is (path_eq-same r)) in
                  put-other (r ++ x ∷ []) other ∙ number_at-push e r x ∙ sym (put-stays r x other (number_at e r) refl)
                  ∙ ap (λ o. enter (with_edge k b to e) o x) (sym (put-other r not_here))
            ]
      ]

  -- the walk afterwards is the walk before, but at that place
  pub number_at-put : (r : Path) → number_at (with_edge k b to e) r ≡ put r
  number_at-put r = determined (with_edge k b to e) put put-step (put-other [] (λ is. let n : 0 ≡ length place = ap length is in omega (arith, length-append v (b ∷ []), n))) r
