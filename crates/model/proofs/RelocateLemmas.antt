-- A loose tree stays one where an object, with what stands below it, goes to a path where nothing is.
use Rattle.std.proofs.Common.{◌≡◌, ◌≢◌, ◌⊎◌, ◌↔◌, inl, inr, ℕ, suc, ◌<◌, [], ◌∷◌, ◌++◌, true, Option, Some, None, is_some, IsSome, All, refl, sym, ap, subst, ◌∙◌, append_assoc, append-nil, arith}
use Rattle.std.specs.List.{AllByRecursion}
use Rattle.std.proofs.Math.Path.{fun_ext}
use Rattle.std.proofs.lemmas.Bool.{false≢true}
use Rattle.std.proofs.lemmas.List.{same_from_push}
use Rattle.std.proofs.lemmas.List.Elements.{All-push, All-append, All-from_recursion, recursion_from_All}
use Rattle.model.specs.declared.limits.Limits.{Limits}
use Rattle.model.specs.Counting.{Counts, CountsUpTo}
use Rattle.model.specs.Paths.{Name, Path, IsName, behind}
use Rattle.model.specs.Trees.{Tree, Object, symlink, file, number_of_object, is_directory, StandsAtPath, IsOpen, IsUsed}
use Rattle.model.specs.Edits.{put_at, relocate, relocated, moved, without_object}
use Rattle.model.proofs.CountLemmas.{same_count, count_along, one_more, one_less}
use Rattle.model.proofs.ListingLemmas.{names_apart}
use Rattle.model.proofs.WalkLemmas.{behind-is, behind-append, behind-empty, Pushed, inside, here, outside, pushed}
use Rattle.model.proofs.OnceLemmas.{path_apart}
use Rattle.model.proofs.LooseLemmas.{IsLooseTree}
use Rattle.model.proofs.LeadLemmas.{directory_some}
use Rattle.model.proofs.TakeLemmas.{no_directory}
use Rattle.model.proofs.PlaceLemmas.{put-other}
use Rattle.model.proofs.OptionLaws.{none_some, absent}

abbrev from_some : Option Path → Path
from_some (Some r) = r
from_some None = []

by_recursion : (p s : Path) → AllByRecursion IsName (p ++ s) → AllByRecursion IsName s
by_recursion [] s all = all
by_recursion (x ∷ p) s all = by_recursion p s all.1

pub all_behind : (p s : Path) → All IsName (p ++ s) → All IsName s
all_behind p s all = All-from_recursion IsName s (by_recursion p s (recursion_from_All IsName (p ++ s) all))

-- what stands in directories all the way
steps_above : (f : Path → Option Object) → ((a : Path) (x : Name) → IsSome (f (a ++ x ∷ [])) → is_directory (f a) ≡ true) → (a b : Path) → b ≢ [] → IsSome (f (a ++ b)) → is_directory (f a) ≡ true
steps_above f step a [] longer some = absurd (longer refl)
steps_above f step a (x ∷ []) longer some = step a x some
steps_above f step a (x ∷ (y ∷ rest)) longer some =
    step a x (directory_some (f (a ++ x ∷ [])) (steps_above f step (a ++ x ∷ []) (y ∷ rest) (λ e. cc) (subst (λ r. IsSome (f r)) (sym (append_assoc a (x ∷ []) (y ∷ rest))) some)))

pub relocated-by : {X : Type 0} (p q r : Path) (f : Path → Option X) (a b : Option Path) → behind q r ≡ a → behind p r ≡ b → relocated p q f r ≡ relocate a b p f r
relocated-by p q r f a b at_a at_b = λ i. relocate (at_a i) (at_b i) p f r

behind-same : (p : Path) → behind p p ≡ Some []
behind-same p = ap (behind p) (sym (append-nil p)) ∙ behind-append p []

-- From p, the name a in the directory at u, to q, the name b in the directory at w.
module _ (limits : Limits) (t : Tree) (tree : IsLooseTree limits t) (u w : Path) (a b : Name) (o : Object) (at_p : t.objects (u ++ a ∷ []) ≡ Some o) (vacant : t.objects (w ++ b ∷ []) ≡ None) (stands : is_directory (t.objects w) ≡ true) (good : IsName b) (apart : behind (u ++ a ∷ []) (w ++ b ∷ []) ≡ None) where
  abbrev p : Path
  p = u ++ a ∷ []

  abbrev q : Path
  q = w ++ b ∷ []

  abbrev new : Tree
  new = moved p q t

  -- nothing is at q or below it
  free : (r s : Path) → behind q r ≡ Some s → t.objects r ≡ None
  free r [] e = ap t.objects (behind-is q r [] e ∙ append-nil q) ∙ vacant
  free r (x ∷ s) e = by (t.objects r) refl
    where
      by : (x : Option Object) → t.objects r ≡ x → t.objects r ≡ None
      by None is = is
      by (Some y) is = absurd (false≢true (ap is_directory (sym vacant) ∙ tree.above q (x ∷ s) (λ z. cc) (subst (λ v. IsSome (t.objects v)) (behind-is q r (x ∷ s) e) (ap is_some is))))

  outside_q : (r : Path) (x : Object) → t.objects r ≡ Some x → behind q r ≡ None
  outside_q r x is = by (behind q r) refl
    where
      by : (e : Option Path) → behind q r ≡ e → behind q r ≡ None
      by None e = e
      by (Some s) e = none_some (sym (free r s e) ∙ is)

  -- w isn't below p
  apart_w : behind p w ≡ None
  apart_w = by (pushed p w b)
    where
      by : Pushed p w b → behind p w ≡ None
      by (inside s e f) = none_some (sym apart ∙ f)
      by (here e same f) = e
      by (outside e other f) = e

  abbrev from_by : Option Path → Path → Path
  from_by (Some s) r = p ++ s
  from_by None r = r

  abbrev from : Path → Path
  from r = from_by (behind q r) r

  abbrev to_by : Option Path → Path → Path
  to_by (Some s) r = q ++ s
  to_by None r = r

  abbrev to : Path → Path
  to r = to_by (behind p r) r

  is-inside : (r s : Path) → behind q r ≡ Some s → new.objects r ≡ t.objects (p ++ s)
  is-inside r s e = relocated-by p q r t.objects (Some s) (behind p r) e refl

  is-left : (r s : Path) → behind q r ≡ None → behind p r ≡ Some s → new.objects r ≡ None
  is-left r s e f = relocated-by p q r t.objects None (Some s) e f

  is-outside : (r : Path) → behind q r ≡ None → behind p r ≡ None → new.objects r ≡ t.objects r
  is-outside r e f = relocated-by p q r t.objects None None e f

  came : (r : Path) (x : Object) → new.objects r ≡ Some x → (t.objects (from r) ≡ Some x) × (to (from r) ≡ r)
  came r x is = by (behind q r) (behind p r) refl refl
    where
      by : (e f : Option Path) → behind q r ≡ e → behind p r ≡ f → (t.objects (from r) ≡ Some x) × (to (from r) ≡ r)
      by (Some s) f at_e at_f =
          let is_from : from r ≡ p ++ s = ap (λ c. from_by c r) at_e in (
            ap t.objects is_from ∙ sym (is-inside r s at_e) ∙ is,
            ap to is_from ∙ ap (λ c. to_by c (p ++ s)) (behind-append p s) ∙ sym (behind-is q r s at_e),
          )
      by None (Some s) at_e at_f = none_some (sym (is-left r s at_e at_f) ∙ is)
      by None None at_e at_f =
          let is_from : from r ≡ r = ap (λ c. from_by c r) at_e in
          (ap t.objects is_from ∙ sym (is-outside r at_e at_f) ∙ is, ap to is_from ∙ ap (λ c. to_by c r) at_f)

  went : (r : Path) (x : Object) → t.objects r ≡ Some x → (new.objects (to r) ≡ Some x) × (from (to r) ≡ r)
  went r x is = by (behind p r) refl
    where
      by : (f : Option Path) → behind p r ≡ f → (new.objects (to r) ≡ Some x) × (from (to r) ≡ r)
      by (Some s) at_f =
          let is_to : to r ≡ q ++ s = ap (λ c. to_by c r) at_f in
          let back : p ++ s ≡ r = sym (behind-is p r s at_f) in (
            ap new.objects is_to ∙ is-inside (q ++ s) s (behind-append q s) ∙ ap t.objects back ∙ is,
            ap from is_to ∙ ap (λ c. from_by c (q ++ s)) (behind-append q s) ∙ back,
          )
      by None at_f =
          let is_to : to r ≡ r = ap (λ c. to_by c r) at_f in
          let out = outside_q r x is in
          (ap new.objects is_to ∙ is-outside r out at_f ∙ is, ap from is_to ∙ ap (λ c. from_by c r) out)

  stood : (kind : ℕ → Object) (n : ℕ) → StandsAtPath new kind n → StandsAtPath t kind n
  stood kind n (r, is) = (from r, (came r (kind n) is).0)

  stands_now : (kind : ℕ → Object) (n : ℕ) → StandsAtPath t kind n → StandsAtPath new kind n
  stands_now kind n (r, is) = (to r, (went r (kind n) is).0)

  used_was : (n : ℕ) → IsUsed new n → IsUsed t n
  used_was n (inl (r, x, is, same)) = inl (from r, x, (came r x is).0, same)
  used_was n (inr open_file) = inr open_file

  used_now : (n : ℕ) → IsUsed t n → IsUsed new n
  used_now n (inl (r, x, is, same)) = inl (to r, x, (went r x is).0, same)
  used_now n (inr open_file) = inr open_file

  file_was : (n : ℕ) → StandsAtPath new file n ⊎ IsOpen new n → StandsAtPath t file n ⊎ IsOpen t n
  file_was n (inl there) = inl (stood file n there)
  file_was n (inr open_file) = inr open_file

  file_now : (n : ℕ) → StandsAtPath t file n ⊎ IsOpen t n → StandsAtPath new file n ⊎ IsOpen new n
  file_now n (inl there) = inl (stands_now file n there)
  file_now n (inr open_file) = inr open_file

  step : (r : Path) (x : Name) → IsSome (new.objects (r ++ x ∷ [])) → is_directory (new.objects r) ≡ true
  step r x some = by (pushed q r x)
    where
      by_p : behind q r ≡ None → behind q (r ++ x ∷ []) ≡ None → Pushed p r x → is_directory (new.objects r) ≡ true
      by_p out_r out_x (inside s e f) = absent (new.objects (r ++ x ∷ [])) (is-left (r ++ x ∷ []) (s ++ x ∷ []) out_x f) some
      by_p out_r out_x (here e same f) = absent (new.objects (r ++ x ∷ [])) (is-left (r ++ x ∷ []) [] out_x f) some
      by_p out_r out_x (outside e other f) = ap is_directory (is-outside r out_r e) ∙ tree.above r (x ∷ []) (λ z. cc) (ap is_some (sym (is-outside (r ++ x ∷ []) out_x f)) ∙ some)

      by : Pushed q r x → is_directory (new.objects r) ≡ true
      by (inside s e f) =
          ap is_directory (is-inside r s e)
          ∙ tree.above (p ++ s) (x ∷ []) (λ z. cc) (ap is_some (ap t.objects (append_assoc p s (x ∷ [])) ∙ sym (is-inside (r ++ x ∷ []) (s ++ x ∷ []) f)) ∙ some)
      by (here e same f) =
          let is_w : r ≡ w = (same_from_push r w x b same).0 in
          ap is_directory (is-outside r e (ap (behind p) is_w ∙ apart_w) ∙ ap t.objects is_w) ∙ stands
      by (outside e other f) = by_p e f (pushed p r x)

  names_new : (r : Path) → IsSome (new.objects r) → All IsName r
  names_new r some = by (behind q r) (behind p r) refl refl
    where
      by : (e f : Option Path) → behind q r ≡ e → behind p r ≡ f → All IsName r
      by (Some s) f at_e at_f =
          let all = tree.names (p ++ s) (ap is_some (sym (is-inside r s at_e)) ∙ some) in
          subst (All IsName) (sym (behind-is q r s at_e)) (All-append IsName q s (All-push IsName w b (tree.names w (directory_some (t.objects w) stands)) good) (all_behind p s all))
      by None (Some s) at_e at_f = absent (new.objects r) (is-left r s at_e at_f) some
      by None None at_e at_f = tree.names r (ap is_some (sym (is-outside r at_e at_f)) ∙ some)

  single_new : (r s : Path) (x y : Object) → new.objects r ≡ Some x → new.objects s ≡ Some y → number_of_object x ≡ number_of_object y → (r ≡ s) ⊎ ((x ≡ file (number_of_object x)) × (y ≡ x))
  single_new r s x y at_r at_s same =
      let one = came r x at_r in
      let other = came s y at_s in
      elim (tree.single (from r) (from s) x y one.0 other.0 same) [ inl e ↦ inl (sym one.1 ∙ ap to e ∙ other.1) | inr both ↦ inr both ]

  links_new : (n : ℕ) → CountsUpTo limits.file_names (λ r. new.objects r ≡ Some (file n))
  links_new n =
      let counts = tree.links n in
      (counts.0, count_along (λ r. t.objects r ≡ Some (file n)) (λ r. new.objects r ≡ Some (file n)) to from counts.0 (λ r is. went r (file n) is) (λ r is. came r (file n) is) counts.1, counts.2)

  -- the names in a directory

  new_q : new.objects q ≡ Some o
  new_q = is-inside q [] (behind-same q) ∙ ap t.objects (append-nil p) ∙ at_p

  new_p : new.objects p ≡ None
  new_p = is-left p [] (outside_q p o at_p) (behind-same p)

  child_same : (r : Path) (x : Name) → behind q r ≡ None → behind p r ≡ None → r ++ x ∷ [] ≢ q → r ++ x ∷ [] ≢ p → new.objects (r ++ x ∷ []) ≡ t.objects (r ++ x ∷ [])
  child_same r x out_q out_p not_q not_p = is-outside (r ++ x ∷ []) (still_out q not_q (pushed q r x) out_q) (still_out p not_p (pushed p r x) out_p)
    where
      still_out : (v : Path) → r ++ x ∷ [] ≢ v → Pushed v r x → behind v r ≡ None → behind v (r ++ x ∷ []) ≡ None
      still_out v other (inside s e f) out = none_some (sym out ∙ e)
      still_out v other (here e same f) out = absurd (other same)
      still_out v other (outside e not_same f) out = f

  abbrev Names : (Path → Option Object) → Path → Name → Type 0
  Names f r x = IsSome (f (r ++ x ∷ []))

  module _ (room : u ≢ w → (count : ℕ) × Counts (Names t.objects w) count × (count < limits.directory_names)) where
    -- without the name a, where r is the directory at u
    abbrev Fewer : Path → Name → Type 0
    Fewer r x = Names t.objects r x × (r ++ x ∷ [] ≢ p)

    fewer : (r : Path) → is_directory (t.objects r) ≡ true → CountsUpTo limits.directory_names (Fewer r) × (r ≡ w → (count : ℕ) × Counts (Fewer r) count × (count < limits.directory_names))
    fewer r is =
        let counts = tree.children r is in
        elim (path_apart r u) [
          | inl same ↦
              let less = one_less (Names t.objects r) a counts.0 names_apart (ap is_some (ap (λ v. t.objects (v ++ a ∷ [])) same ∙ at_p)) counts.1 in
              let rest = same_count (λ x. Names t.objects r x × (x ≢ a)) (Fewer r) less.0 (λ x. (
                (λ (there, other). (there, λ e. other (same_from_push r u x a e).1)),
                (λ (there, other). (there, λ e. other (ap (λ v. v ++ x ∷ []) same ∙ ap (λ y. u ++ y ∷ []) e))),
              )) less.2 in
              ((less.0, rest, omega (arith, less.1, counts.2)), λ at_w. (less.0, rest, omega (arith, less.1, counts.2)))
          | inr other ↦
              let all : (count : ℕ) → Counts (Names t.objects r) count → Counts (Fewer r) count = λ count there. same_count (Names t.objects r) (Fewer r) count (λ x. ((λ here. (here, λ e. other (same_from_push r u x a e).0)), (λ here. here.0))) there in (
                (counts.0, all counts.0 counts.1, counts.2),
                λ at_w.
                    let places = room (λ e. other (at_w ∙ sym e)) in
                    (places.0, all places.0 (subst (λ v. Counts (Names t.objects v) places.0) (sym at_w) places.1), places.2),
              )
        ]

    children_out : (r : Path) → is_directory (new.objects r) ≡ true → behind q r ≡ None → behind p r ≡ None → CountsUpTo limits.directory_names (Names new.objects r)
    children_out r is out_q out_p =
        let few = fewer r (ap is_directory (sym (is-outside r out_q out_p)) ∙ is) in
        let same : (x : Name) → r ++ x ∷ [] ≢ q → Fewer r x ↔ Names new.objects r x = λ x not_q. (
          (λ (there, not_p). ap is_some (child_same r x out_q out_p not_q not_p) ∙ there),
          (λ there.
              let not_p : r ++ x ∷ [] ≢ p = λ e. absent (new.objects (r ++ x ∷ [])) (ap new.objects e ∙ new_p) there in
              (ap is_some (sym (child_same r x out_q out_p not_q not_p)) ∙ there, not_p)),
        ) in
        elim (path_apart r w) [
          | inl at_w ↦
              let places = few.1 at_w in (
                suc places.0,
                one_more (Fewer r) (Names new.objects r) b places.0 (ap is_some (ap (λ v. new.objects (v ++ b ∷ [])) at_w ∙ new_q))
                    (λ x. (
                      (λ here.
                          let other : x ≢ b = λ e. absent (t.objects (r ++ x ∷ [])) (ap (λ v. t.objects (v ++ x ∷ [])) at_w ∙ ap (λ y. t.objects (w ++ y ∷ [])) e ∙ vacant) here.0 in
                          ((same x (λ e. other (same_from_push r w x b e).1)).0 here, other)),
                      (λ (there, other). (same x (λ e. other (same_from_push r w x b e).1)).1 there),
                    )) places.1,
                omega (arith, places.2),
              )
          | inr other ↦
              let counts = few.0 in
              (counts.0, same_count (Fewer r) (Names new.objects r) counts.0 (λ x. same x (λ e. other (same_from_push r w x b e).0)) counts.1, counts.2)
        ]

    children_new : (r : Path) → is_directory (new.objects r) ≡ true → CountsUpTo limits.directory_names (Names new.objects r)
    children_new r is = by (behind q r) (behind p r) refl refl
      where
        by : (e f : Option Path) → behind q r ≡ e → behind p r ≡ f → CountsUpTo limits.directory_names (Names new.objects r)
        by (Some s) f at_e at_f =
            let counts = tree.children (p ++ s) (ap is_directory (sym (is-inside r s at_e)) ∙ is) in
            let each : (x : Name) → new.objects (r ++ x ∷ []) ≡ t.objects ((p ++ s) ++ x ∷ []) = λ x. is-inside (r ++ x ∷ []) (s ++ x ∷ []) (more x (pushed q r x)) ∙ ap t.objects (sym (append_assoc p s (x ∷ []))) in
            (counts.0, same_count (Names t.objects (p ++ s)) (Names new.objects r) counts.0 (λ x. ((λ there. ap is_some (each x) ∙ there), (λ there. ap is_some (sym (each x)) ∙ there))) counts.1, counts.2)
          where
            more : (x : Name) → Pushed q r x → behind q (r ++ x ∷ []) ≡ Some (s ++ x ∷ [])
            more x (inside v e g) = g ∙ ap (λ (c : Option Path). Some (from_some c ++ x ∷ [])) (sym e ∙ at_e)
            more x (here e same g) = none_some (sym e ∙ at_e)
            more x (outside e other g) = none_some (sym e ∙ at_e)
        by None (Some s) at_e at_f = no_directory (new.objects r) (is-left r s at_e at_f) is
        by None None at_e at_f = children_out r is at_e at_f

    pub moved_is_loose : IsLooseTree limits new
    moved_is_loose = record {
      can_be = tree.can_be;
      root = is-outside [] (behind-empty w b) (behind-empty u a) ∙ tree.root;
      above = steps_above new.objects step;
      names = names_new;
      single = single_new;
      bytes = λ n there. tree.bytes n (file_was n there);
      attributes = λ n used. tree.attributes n (used_was n used);
      loose_bytes = λ n some. elim (tree.loose_bytes n some) [ inl there ↦ inl (file_now n there) | inr unused ↦ inr (λ used. unused (used_was n used)) ];
      loose_attributes = λ n some. elim (tree.loose_attributes n some) [ inl used ↦ inl (used_now n used) | inr unused ↦ inr (λ used. unused (used_was n used)) ];
      opened = λ n r x open_file at_r same. tree.opened n (from r) x open_file (came r x at_r).0 same;
      numbers = λ n used. tree.numbers n (used_was n used);
      texts = λ r n text is. tree.texts (from r) n text (came r (symlink n text) is).0;
      children = children_new;
      links = links_new;
      sizes = tree.sizes;
      fit = tree.fit;
      table = tree.table;
      offsets = tree.offsets;
    }

-- what is replaced may be taken away before
pub moved_over : (t : Tree) (p q : Path) → behind p q ≡ None → moved p q (without_object q t) ≡ moved p q t
moved_over t p q apart = λ i. record t { objects = fun_ext (λ r. each r (behind q r) (behind p r) refl refl) i }
  where
    each : (r : Path) (e f : Option Path) → behind q r ≡ e → behind p r ≡ f → relocated p q (put_at q None t.objects) r ≡ relocated p q t.objects r
    each r (Some s) f at_e at_f =
        relocated-by p q r (put_at q None t.objects) (Some s) f at_e at_f
        ∙ put-other q (p ++ s) None t.objects (λ e. none_some (sym apart ∙ ap (behind p) (sym e) ∙ behind-append p s))
        ∙ sym (relocated-by p q r t.objects (Some s) f at_e at_f)
    each r None (Some s) at_e at_f = relocated-by p q r (put_at q None t.objects) None (Some s) at_e at_f ∙ sym (relocated-by p q r t.objects None (Some s) at_e at_f)
    each r None None at_e at_f =
        relocated-by p q r (put_at q None t.objects) None None at_e at_f
        ∙ put-other q r None t.objects (λ e. none_some (sym at_e ∙ ap (behind q) e ∙ behind-same q))
        ∙ sym (relocated-by p q r t.objects None None at_e at_f)
