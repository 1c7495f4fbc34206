-- Resolution by numbers leads where resolution by paths does.
use Rattle.std.proofs.Common.{◌≡◌, inl, inr, ℕ, zero, suc, ◌+◌, ◌-◌, ◌≤◌, ◌<◌, List, [], ◌∷◌, ◌++◌, fold, length, take, drop, get_or, Bool, true, false, not, ◌&&◌, cond, Option, Some, None, is_some, IsSome, refl, sym, ap, subst, ◌∙◌, length-append, length-take, append_assoc, append-nil, arith}
use Rattle.std.specs.Prelude.{if◌then◌else◌, Contains}
use Rattle.std.proofs.lemmas.Bool.{cases_lt, ne_eqb, or_parts, false≢true}
use Rattle.std.specs.List.{list_any}
use Rattle.std.proofs.lemmas.List.Sums.{fold-append}
use Rattle.std.proofs.lemmas.List.{get_or-take, take-append-drop, get_or_push, take_all, take-take, take-append-le}
use Rattle.model.specs.declared.limits.TheConstants.{ROOT_NUMBER, LINKS_FOLLOWED}
use Rattle.model.specs.declared.errno.Errno.{Errno}
use Rattle.model.specs.declared.errno.Errno.TheVariants.{ENOENT, ENOTDIR, ENAMETOOLONG, ELOOP, DAMAGED}
use Rattle.model.specs.Paths.{Name, Path, behind, parts, is_dot, is_dot_dot, is_empty, is_too_long, starts_with_slash}
use Rattle.model.specs.Trees.{Tree, Description, directory}
use Rattle.model.specs.Resolution as tree
use Rattle.model.specs.Volumes.{Node, directory_node, file_node, link_node, Volume, Entries, entries, enter, number_at, object_at, object_of, tree_of, is_directory_node, is_file_node}
use Rattle.model.specs.Finding.{here, Trails, Place, at_directory, at_entry, at_missing, at_refusal, trail_from, Turn, stays_on, enters, ends_at, follows, finds_nothing, finds_damage, finds_long, turn_at, turn_by, turn, WalkEnd, halts, halts_at_link, find_along, find_on, find_within, IsPlaceAt, IsPlaceOf}
use Rattle.model.specs.Laws.{ResolvesByNumbers, ResolvesFromNumbers, TrailsTellBelow, BelowIsByPaths}
use Rattle.model.proofs.VolumeLemmas.{alone}
use Rattle.model.proofs.WalkLemmas.{number_at-push, behind-append, behind-is}
use Rattle.std.proofs.Math.Seq.{take-append_seam}
use Rattle.model.proofs.SweepLemmas.{found_number}
use Rattle.model.proofs.OptionLaws.{none_some, some_same}

get_or_defaults : (xs : List ℕ) (i d c : ℕ) → i < length xs → get_or xs i d ≡ get_or xs i c
get_or_defaults [] i d c below = absurd (omega (arith, below))
get_or_defaults (x ∷ xs) zero d c below = refl
get_or_defaults (x ∷ xs) (suc i) d c below = get_or_defaults xs i d c (omega (arith, below))

more_parts : (x : Name) (rest : List Name) → is_empty (x ∷ rest) ≡ false
more_parts x rest = ne_eqb (length (x ∷ rest)) 0 (λ e. omega (arith, e))

-- trails

trails_root : (e : Entries) → Trails e [] []
trails_root e = record { size = refl; each = λ i below. ap (number_at e) (take_all i [] (omega arith)) ∙ ap (λ tr. Some (here tr)) (sym (take_all i [] (omega arith))) }

pub trails_end : (e : Entries) (p : Path) (trail : List ℕ) → Trails e p trail → number_at e p ≡ Some (here trail)
trails_end e p trail t =
    ap (number_at e) (sym (take_all (length p) p (omega arith))) ∙ t.each (length p) (omega arith)
    ∙ ap (λ tr. Some (here tr)) (take_all (length p) trail (omega (arith, t.size)))

here-push : (trail : List ℕ) (k : ℕ) → here (trail ++ k ∷ []) ≡ k
here-push trail k = get_or_push trail k 3 (length (trail ++ k ∷ []) - 1) (omega (arith, length-append trail (k ∷ [])))

trails_push : (e : Entries) (p : Path) (trail : List ℕ) (x : Name) (k : ℕ) → Trails e p trail → e (here trail) x ≡ Some k → Trails e (p ++ x ∷ []) (trail ++ k ∷ [])
trails_push e p trail x k t edge = record {
  size = omega (arith, length-append trail (k ∷ []), length-append p (x ∷ []), t.size);
  each = λ i below. elim (cases_lt (length p) i) [
    | inl past ↦
        ap (number_at e) (take_all i (p ++ x ∷ []) (omega (arith, length-append p (x ∷ []), past)))
        ∙ number_at-push e p x ∙ ap (λ o. enter e o x) (trails_end e p trail t) ∙ edge
        ∙ ap (λ m. Some m) (sym (here-push trail k)) ∙ ap (λ tr. Some (here tr)) (sym (take_all i (trail ++ k ∷ []) (omega (arith, length-append trail (k ∷ []), past, t.size))))
    | inr under ↦
        ap (number_at e) (take-append-le i p (x ∷ []) under) ∙ t.each i under
        ∙ ap (λ tr. Some (here tr)) (sym (take-append-le i trail (k ∷ []) (omega (arith, under, t.size))))
  ];
}

trails_up : (e : Entries) (p : Path) (trail : List ℕ) → Trails e p trail → Trails e (tree.parent p) (take (length trail - 1) trail)
trails_up e p trail t = record {
  size = omega (arith, length-take (length trail - 1) trail, length-take (length p - 1) p, t.size);
  each = λ i below.
      let under : i ≤ length p - 1 = omega (arith, length-take (length p - 1) p, below) in
      ap (number_at e) (take-take i (length p - 1) p under) ∙ t.each i (omega (arith, under))
      ∙ ap (λ tr. Some (here tr)) (sym (take-take i (length trail - 1) trail (omega (arith, under, t.size))));
}

module _ (v : Volume) (used : (d n : ℕ) (x : Name) → entries v d x ≡ Some n → IsSome (v n)) (table : ℕ → Option Description) where
  abbrev t : Tree
  t = tree_of v table

  abbrev IsTurnOf : List ℕ → Path → Name → Turn → tree.Next → Type 0
  IsTurnOf trail p x (stays_on next) (tree.into q) = Trails (entries v) q next
  IsTurnOf trail p x (enters n) (tree.into q) = (q ≡ p ++ x ∷ []) × (entries v (here trail) x ≡ Some n) × Trails (entries v) q (trail ++ n ∷ [])
  IsTurnOf trail p x (ends_at n) (tree.over q) = (q ≡ p ++ x ∷ []) × (entries v (here trail) x ≡ Some n)
  IsTurnOf trail p x (follows n text) (tree.link other) = (other ≡ text) × (entries v (here trail) x ≡ Some n)
  IsTurnOf trail p x finds_nothing tree.absent = entries v (here trail) x ≡ None
  IsTurnOf trail p x finds_long tree.too_long = Unit {0}
  IsTurnOf trail p x _ _ = ⊥

  abbrev IsHaltOf : WalkEnd → tree.Stop → Type 0
  IsHaltOf (halts place) (tree.at answer) = IsPlaceOf v place answer
  IsHaltOf (halts_at_link trail text rest) (tree.at_link p other more) = Trails (entries v) p trail × (other ≡ text) × (more ≡ rest)
  IsHaltOf _ _ = ⊥

  module _ (trail : List ℕ) (p : Path) (x : Name) (trails : Trails (entries v) p trail) where
    turn_number : (n : ℕ) → entries v (here trail) x ≡ Some n → (o : Option Node) → IsSome o → IsTurnOf trail p x (turn_at n o) (tree.found (p ++ x ∷ []) (object_of n o))
    turn_number n edge None some = absurd (false≢true some)
    turn_number n edge (Some (directory_node attributes names)) some = (refl, edge, trails_push (entries v) p trail x n trails edge)
    turn_number n edge (Some (file_node attributes links bytes)) some = (refl, edge)
    turn_number n edge (Some (link_node attributes text)) some = (refl, edge)

    turn_entry : (o : Option ℕ) → entries v (here trail) x ≡ o → IsTurnOf trail p x (turn_by v o) (tree.found (p ++ x ∷ []) (object_at v o))
    turn_entry None edge = edge
    turn_entry (Some n) edge = turn_number n edge (v n) (used (here trail) n x edge)

    looked_up : t.objects (p ++ x ∷ []) ≡ object_at v (entries v (here trail) x)
    looked_up = ap (object_at v) (number_at-push (entries v) p x ∙ ap (λ o. enter (entries v) o x) (trails_end (entries v) p trail trails))

    turn_matches : IsTurnOf trail p x (turn v trail x) (tree.next t p x)
    turn_matches =
        elim (is_dot x) as (λ a. IsTurnOf trail p x (cond a (stays_on trail) (cond (is_dot_dot x) (stays_on (take (length trail - 1) trail)) (cond (is_too_long x) finds_long (turn_by v (entries v (here trail) x)))))
        (cond a (tree.into p) (cond (is_dot_dot x) (tree.into (tree.parent p)) (cond (is_too_long x) tree.too_long (tree.found (p ++ x ∷ []) (t.objects (p ++ x ∷ []))))))) [
          | true ↦ trails
          | false ↦ elim (is_dot_dot x) as (λ a. IsTurnOf trail p x (cond a (stays_on (take (length trail - 1) trail)) (cond (is_too_long x) finds_long (turn_by v (entries v (here trail) x))))
              (cond a (tree.into (tree.parent p)) (cond (is_too_long x) tree.too_long (tree.found (p ++ x ∷ []) (t.objects (p ++ x ∷ [])))))) [
                | true ↦ trails_up (entries v) p trail trails
                | false ↦ elim (is_too_long x) as (λ a. IsTurnOf trail p x (cond a finds_long (turn_by v (entries v (here trail) x))) (cond a tree.too_long (tree.found (p ++ x ∷ []) (t.objects (p ++ x ∷ []))))) [
                  | true ↦ tt
                  | false ↦ subst (λ o. IsTurnOf trail p x (turn_by v (entries v (here trail) x)) (tree.found (p ++ x ∷ []) o)) (sym looked_up) (turn_entry (entries v (here trail) x) refl)
                ]
              ]
        ]

  abbrev after_in : Bool → List ℕ → Name → List Name → Turn → WalkEnd
  after_in follow trail part rest (stays_on next) = find_along v follow next rest
  after_in follow trail part rest (enters n) = cond (is_empty rest) (halts (at_entry trail part n)) (find_along v follow (trail ++ n ∷ []) rest)
  after_in follow trail part rest (ends_at n) = halts (cond (is_empty rest) (at_entry trail part n) (at_refusal ENOTDIR))
  after_in follow trail part rest (follows n text) = cond (is_empty rest && not follow) (halts (at_entry trail part n)) (halts_at_link trail text rest)
  after_in follow trail part rest finds_nothing = halts (cond (is_empty rest) (at_missing trail part) (at_refusal ENOENT))
  after_in follow trail part rest finds_damage = halts (at_refusal DAMAGED)
  after_in follow trail part rest finds_long = halts (at_refusal ENAMETOOLONG)

  abbrev after : Bool → Path → Name → List Name → tree.Next → tree.Stop
  after follow p part rest (tree.into q) = tree.walk t follow q rest
  after follow p part rest (tree.over q) = tree.at (cond (is_empty rest) (tree.named q) (tree.refused ENOTDIR))
  after follow p part rest (tree.link text) = cond (is_empty rest && not follow) (tree.at (tree.named (p ++ part ∷ []))) (tree.at_link p text rest)
  after follow p part rest tree.absent = tree.at (cond (is_empty rest) (tree.missing p part) (tree.refused ENOENT))
  after follow p part rest tree.too_long = tree.at (tree.refused ENAMETOOLONG)

  -- two choices by one test
  chosen : {A B : Type 0} (R : A → B → Type 0) (b : Bool) (x y : A) (z w : B) → R x z → R y w → R (cond b x y) (cond b z w)
  chosen R true x y z w first second = first
  chosen R false x y z w first second = second

  after_matches : (follow : Bool) (rest : List Name) → ((q : Path) (next : List ℕ) → Trails (entries v) q next → IsHaltOf (find_along v follow next rest) (tree.walk t follow q rest)) → (p : Path) (part : Name) (trail : List ℕ) → Trails (entries v) p trail → (n : Turn) (m : tree.Next) → IsTurnOf trail p part n m → IsHaltOf (after_in follow trail part rest n) (after follow p part rest m)
  after_matches follow rest more p part trail trails (stays_on next) (tree.into q) is = more q next is
  after_matches follow [] more p part trail trails (enters n) (tree.into q) is = (p, trails, is.0, is.1)
  after_matches follow (y ∷ rest) more p part trail trails (enters n) (tree.into q) is =
      subst (λ b. IsHaltOf (cond b (halts (at_entry trail part n)) (find_along v follow (trail ++ n ∷ []) (y ∷ rest))) (tree.walk t follow q (y ∷ rest))) (sym (more_parts y rest)) (more q (trail ++ n ∷ []) is.2)
  after_matches follow rest more p part trail trails (ends_at n) (tree.over q) is =
      chosen (λ place answer. IsPlaceOf v place answer) (is_empty rest) (at_entry trail part n) (at_refusal ENOTDIR) (tree.named q) (tree.refused ENOTDIR) (p, trails, is.0, is.1) refl
  after_matches follow rest more p part trail trails (follows n text) (tree.link other) is =
      chosen IsHaltOf (is_empty rest && not follow) (halts (at_entry trail part n)) (halts_at_link trail text rest) (tree.at (tree.named (p ++ part ∷ []))) (tree.at_link p other rest) (p, trails, refl, is.1) (trails, is.0, refl)
  after_matches follow rest more p part trail trails finds_nothing tree.absent is =
      chosen (λ place answer. IsPlaceOf v place answer) (is_empty rest) (at_missing trail part) (at_refusal ENOENT) (tree.missing p part) (tree.refused ENOENT) (trails, refl, is) refl
  after_matches follow rest more p part trail trails finds_long tree.too_long is = refl
  after_matches follow rest more p part trail trails _ _ is = absurd is

  walk_matches : (follow : Bool) (names : List Name) (p : Path) (trail : List ℕ) → Trails (entries v) p trail → IsHaltOf (find_along v follow trail names) (tree.walk t follow p names)
  walk_matches follow [] p trail trails = trails
  walk_matches follow (part ∷ rest) p trail trails =
      after_matches follow rest (λ q next. walk_matches follow rest q next) p part trail trails (turn v trail part) (tree.next t p part) (turn_matches trail p part trails)

  -- walks from directories of one number go one way, as long as no part leads up
  abbrev SamePlace : Place → Place → Type 0
  SamePlace (at_directory a) (at_directory b) = here a ≡ here b
  SamePlace (at_entry a x n) (at_entry b y m) = (here a ≡ here b) × (x ≡ y) × (n ≡ m)
  SamePlace (at_missing a x) (at_missing b y) = (here a ≡ here b) × (x ≡ y)
  SamePlace (at_refusal errno) (at_refusal other) = errno ≡ other
  SamePlace _ _ = ⊥

  abbrev SameEnd : WalkEnd → WalkEnd → Type 0
  SameEnd (halts place) (halts other) = SamePlace place other
  SameEnd (halts_at_link a text rest) (halts_at_link b other more) = Unit {0}
  SameEnd _ _ = ⊥

  module _ (follow : Bool) (part : Name) (rest : List Name) (more : (a b : List ℕ) → here a ≡ here b → SameEnd (find_along v follow a rest) (find_along v follow b rest)) (a b : List ℕ) (same : here a ≡ here b) where
    same_node : (n : ℕ) (o : Option Node) → SameEnd (after_in follow a part rest (turn_at n o)) (after_in follow b part rest (turn_at n o))
    same_node n None = refl
    same_node n (Some (directory_node attributes names)) =
        chosen SameEnd (is_empty rest) (halts (at_entry a part n)) (find_along v follow (a ++ n ∷ []) rest) (halts (at_entry b part n)) (find_along v follow (b ++ n ∷ []) rest) (same, refl, refl)
        (more (a ++ n ∷ []) (b ++ n ∷ []) (here-push a n ∙ sym (here-push b n)))
    same_node n (Some (file_node attributes links bytes)) =
        chosen SamePlace (is_empty rest) (at_entry a part n) (at_refusal ENOTDIR) (at_entry b part n) (at_refusal ENOTDIR) (same, refl, refl) refl
    same_node n (Some (link_node attributes text)) =
        chosen SameEnd (is_empty rest && not follow) (halts (at_entry a part n)) (halts_at_link a text rest) (halts (at_entry b part n)) (halts_at_link b text rest) (same, refl, refl) tt

    same_turn : (o : Option ℕ) → SameEnd (after_in follow a part rest (turn_by v o)) (after_in follow b part rest (turn_by v o))
    same_turn None = chosen SamePlace (is_empty rest) (at_missing a part) (at_refusal ENOENT) (at_missing b part) (at_refusal ENOENT) (same, refl) refl
    same_turn (Some n) = same_node n (v n)

    same_part : is_dot_dot part ≡ false → SameEnd (after_in follow a part rest (turn v a part)) (after_in follow b part rest (turn v b part))
    same_part plain =
        elim (is_dot part) as (λ x. SameEnd (after_in follow a part rest (cond x (stays_on a) (cond (is_dot_dot part) (stays_on (take (length a - 1) a)) (cond (is_too_long part) finds_long (turn_by v (entries v (here a) part))))))
        (after_in follow b part rest (cond x (stays_on b) (cond (is_dot_dot part) (stays_on (take (length b - 1) b)) (cond (is_too_long part) finds_long (turn_by v (entries v (here b) part))))))) [
          | true ↦ more a b same
          | false ↦ subst (λ y. SameEnd (after_in follow a part rest (cond y (stays_on (take (length a - 1) a)) (cond (is_too_long part) finds_long (turn_by v (entries v (here a) part)))))
              (after_in follow b part rest (cond y (stays_on (take (length b - 1) b)) (cond (is_too_long part) finds_long (turn_by v (entries v (here b) part)))))) (sym plain)
              (elim (is_too_long part) as (λ z. SameEnd (after_in follow a part rest (cond z finds_long (turn_by v (entries v (here a) part)))) (after_in follow b part rest (cond z finds_long (turn_by v (entries v (here b) part))))) [
                | true ↦ refl
                | false ↦ subst (λ k. SameEnd (after_in follow a part rest (turn_by v (entries v (here a) part))) (after_in follow b part rest (turn_by v (entries v k part)))) same (same_turn (entries v (here a) part))
              ])
        ]

  walk_same : (follow : Bool) (names : List Name) (a b : List ℕ) → here a ≡ here b → list_any is_dot_dot names ≡ false → SameEnd (find_along v follow a names) (find_along v follow b names)
  walk_same follow [] a b same plain = same
  walk_same follow (part ∷ rest) a b same plain =
      let each = or_parts (is_dot_dot part) (list_any is_dot_dot rest) plain in
      same_part follow part rest (λ x y is. walk_same follow rest x y is each.1) a b same each.0

  end_same : (h k : WalkEnd) → SameEnd h k → SamePlace (find_on (λ _ _. at_refusal ELOOP) h) (find_on (λ _ _. at_refusal ELOOP) k)
  end_same (halts place) (halts other) is = is
  end_same (halts_at_link a text rest) (halts_at_link b other more) is = refl
  end_same _ _ is = absurd is

  place_directory : (a b : List ℕ) (r : tree.Resolution) → here a ≡ here b → IsPlaceOf v (at_directory a) r → IsPlaceAt v (at_directory b) r
  place_directory a b (tree.named p) same is = trails_end (entries v) p a is ∙ ap (λ k. Some k) same
  place_directory a b (tree.missing p x) same is = absurd is
  place_directory a b (tree.refused errno) same is = absurd is

  place_entry : (a b : List ℕ) (x y : Name) (n m : ℕ) (r : tree.Resolution) → here a ≡ here b → x ≡ y → n ≡ m → IsPlaceOf v (at_entry a x n) r → IsPlaceAt v (at_entry b y m) r
  place_entry a b x y n m (tree.named q) same name number (p, trails, is, edge) = (
    p,
    trails_end (entries v) p a trails ∙ ap (λ k. Some k) same,
    is ∙ ap (λ z. p ++ z ∷ []) name,
    ap (λ k. entries v k y) (sym same) ∙ ap (λ z. entries v (here a) z) (sym name) ∙ edge ∙ ap (λ k. Some k) number,
  )
  place_entry a b x y n m (tree.missing p z) same name number is = absurd is
  place_entry a b x y n m (tree.refused errno) same name number is = absurd is

  place_missing : (a b : List ℕ) (x y : Name) (r : tree.Resolution) → here a ≡ here b → x ≡ y → IsPlaceOf v (at_missing a x) r → IsPlaceAt v (at_missing b y) r
  place_missing a b x y (tree.named p) same name is = absurd is
  place_missing a b x y (tree.missing p z) same name is = (
    trails_end (entries v) p a is.0 ∙ ap (λ k. Some k) same,
    is.1 ∙ name,
    ap (λ k. entries v k y) (sym same) ∙ ap (λ w. entries v (here a) w) (sym name) ∙ is.2,
  )
  place_missing a b x y (tree.refused errno) same name is = absurd is

  place_refusal : (errno other : Errno) (r : tree.Resolution) → errno ≡ other → IsPlaceOf v (at_refusal errno) r → IsPlaceAt v (at_refusal other) r
  place_refusal errno other (tree.named p) same is = absurd is
  place_refusal errno other (tree.missing p x) same is = absurd is
  place_refusal errno other (tree.refused e) same is = is ∙ same

  pub place_same : (place other : Place) (r : tree.Resolution) → SamePlace place other → IsPlaceOf v place r → IsPlaceAt v other r
  place_same (at_directory a) (at_directory b) r same is = place_directory a b r same is
  place_same (at_entry a x n) (at_entry b y m) r same is = place_entry a b x y n m r same.0 same.1 same.2 is
  place_same (at_missing a x) (at_missing b y) r same is = place_missing a b x y r same.0 same.1 is
  place_same (at_refusal errno) (at_refusal other) r same is = place_refusal errno other r same is
  place_same _ _ r same is = absurd same

  on_matches : (again : List ℕ → List Name → Place) (once_more : Path → List Name → tree.Resolution) → ((p : Path) (trail : List ℕ) (names : List Name) → Trails (entries v) p trail → IsPlaceOf v (again trail names) (once_more p names)) → (h : WalkEnd) (s : tree.Stop) → IsHaltOf h s → IsPlaceOf v (find_on again h) (tree.go_on once_more s)
  on_matches again once_more both (halts place) (tree.at answer) is = is
  on_matches again once_more both (halts_at_link trail text rest) (tree.at_link p other more) is =
      subst (λ o. IsPlaceOf v (again (if starts_with_slash text then [] else trail) (parts text ++ rest)) (once_more (if starts_with_slash o then [] else p) (parts o ++ more))) (sym is.1)
      (subst (λ r. IsPlaceOf v (again (if starts_with_slash text then [] else trail) (parts text ++ rest)) (once_more (if starts_with_slash text then [] else p) (parts text ++ r))) (sym is.2)
      (both (if starts_with_slash text then [] else p) (if starts_with_slash text then [] else trail) (parts text ++ rest) (chosen (λ tr q. Trails (entries v) q tr) (starts_with_slash text) [] trail [] p (trails_root (entries v)) is.0)))
  on_matches again once_more both _ _ is = absurd is

  -- resolution by numbers is resolution by paths
  pub finds : (links : ℕ) (follow : Bool) (p : Path) (trail : List ℕ) (names : List Name) → Trails (entries v) p trail → IsPlaceOf v (find_within links v follow trail names) (tree.resolve_within links t follow p names)
  finds zero follow p trail names trails =
      on_matches (λ _ _. at_refusal ELOOP) (λ _ _. tree.refused ELOOP) (λ q tr more is. refl) (find_along v follow trail names) (tree.walk t follow p names) (walk_matches follow names p trail trails)
  finds (suc links) follow p trail names trails =
      on_matches (find_within links v follow) (tree.resolve_within links t follow) (λ q tr more is. finds links follow q tr more is) (find_along v follow trail names) (tree.walk t follow p names) (walk_matches follow names p trail trails)

  -- from a directory's number
  pub finds_from : (follow : Bool) (p : Path) (trail : List ℕ) (n : ℕ) (names : List Name) → Trails (entries v) p trail → here trail ≡ n → list_any is_dot_dot names ≡ false → IsPlaceAt v (find_within 0 v follow (trail_from n) names) (tree.resolve_within 0 t follow p names)
  finds_from follow p trail n names trails is plain =
      place_same (find_within 0 v follow trail names) (find_within 0 v follow (trail_from n) names) (tree.resolve_within 0 t follow p names)
      (end_same (find_along v follow trail names) (find_along v follow (trail_from n) names) (walk_same follow names trail (trail_from n) is plain)) (finds 0 follow p trail names trails)

  pub finds_from_root : (follow : Bool) (text : List ℕ) → IsPlaceOf v (find_within LINKS_FOLLOWED v follow [] (parts text)) (tree.resolve t follow text)
  finds_from_root follow text = finds LINKS_FOLLOWED follow [] [] (parts text) (trails_root (entries v))

-- each path to a number has a trail
none_below : (e : Entries) (s : Path) → fold (enter e) None s ≡ None
none_below e [] = refl
none_below e (x ∷ s) = none_below e s

trails_along : (e : Entries) (u : Path) (trail : List ℕ) (s : Path) (n : ℕ) → Trails e u trail → fold (enter e) (Some (here trail)) s ≡ Some n → (more : List ℕ) × Trails e (u ++ s) more × (here more ≡ n)
trails_along e u trail [] n trails is = (trail, subst (λ q. Trails e q trail) (sym (append-nil u)) trails, some_same is)
trails_along e u trail (x ∷ s) n trails is =
    elim (e (here trail) x) as (λ o. e (here trail) x ≡ o → fold (enter e) o s ≡ Some n → (more : List ℕ) × Trails e (u ++ x ∷ s) more × (here more ≡ n)) [
      | None ↦ λ edge at. none_some (sym (none_below e s) ∙ at)
      | Some k ↦ λ edge at.
          let below = trails_along e (u ++ x ∷ []) (trail ++ k ∷ []) s n (trails_push e u trail x k trails edge) (ap (λ j. fold (enter e) (Some j) s) (here-push trail k) ∙ at) in
          (below.0, subst (λ q. Trails e q below.0) (append_assoc u (x ∷ []) s) below.1, below.2)
    ] refl is

-- the object n, which stands at p alone, lies on a trail just where the trail's path begins with p
module _ (e : Entries) (w p : Path) (trail : List ℕ) (n : ℕ) (trails : Trails e w trail) (at_p : number_at e p ≡ Some n) where
  here-take : (i : ℕ) → i < length trail → here (take (i + 1) trail) ≡ get_or trail i n
  here-take i below =
      ap (λ j. get_or (take (i + 1) trail) j 3) (omega (arith, length-take (i + 1) trail, below)) ∙ get_or-take (i + 1) trail i 3 (omega arith) ∙ get_or_defaults trail i 3 n below

  pub below_from : ((q : Path) → number_at e q ≡ Some n → q ≡ p) → Contains trail n → (s : Path) × (behind p w ≡ Some s)
  below_from alone (i, below, is) =
      let at : number_at e (take (i + 1) w) ≡ Some n = trails.each (i + 1) (omega (arith, trails.size, below)) ∙ ap (λ m. Some m) (here-take i below ∙ is) in
      let same : take (i + 1) w ≡ p = alone (take (i + 1) w) at in
      (drop (i + 1) w, ap (behind p) (sym (take-append-drop (i + 1) w) ∙ ap (λ q. q ++ drop (i + 1) w) same) ∙ behind-append p (drop (i + 1) w))

  pub below_to : (s : Path) → 1 ≤ length p → behind p w ≡ Some s → Contains trail n
  below_to s some is =
      let whole : w ≡ p ++ s = behind-is p w s is in
      let front : take (length p) w ≡ p = ap (take (length p)) whole ∙ take-append_seam p s in
      let size : length w ≡ length (p ++ s) = ap length whole in
      let below : length p - 1 < length trail = omega (arith, trails.size, some, length-append p s, size) in
      let at : Some (here (take (length p) trail)) ≡ Some n = sym (trails.each (length p) (omega (arith, length-append p s, size))) ∙ ap (number_at e) front ∙ at_p in
      (length p - 1, below, sym (here-take (length p - 1) below) ∙ ap (λ j. here (take j trail)) (omega (arith, some)) ∙ some_same at)

pub resolves_by_numbers : ResolvesByNumbers
resolves_by_numbers limits v table follow text volume = finds_from_root v volume.graph.naming.used table follow text

directory_facts : (n : ℕ) (o : Option Node) → is_directory_node o ≡ true → IsSome o × (is_file_node o ≡ false) × (object_of n o ≡ Some (directory n))
directory_facts n None is = absurd (false≢true is)
directory_facts n (Some (directory_node attributes names)) is = (refl, refl, refl)
directory_facts n (Some (file_node attributes links bytes)) is = absurd (false≢true is)
directory_facts n (Some (link_node attributes text)) is = absurd (false≢true is)

pub resolves_from_numbers : ResolvesFromNumbers
resolves_from_numbers limits v table follow n names volume is plain =
    let facts = directory_facts n (v n) is in
    let reached = volume.graph.naming.reached n facts.0 facts.1 in
    let along = trails_along (entries v) [] [] reached.0 n (trails_root (entries v)) reached.1 in (
      reached.0,
      record {
        stands = ap (object_at v) reached.1 ∙ facts.2;
        only = λ q at_q. alone v volume.graph q reached.0 n (found_number v (number_at (entries v) q) (directory n) n at_q refl) reached.1 facts.1;
      },
      finds_from v volume.graph.naming.used table follow reached.0 along.0 n names along.1 along.2 plain,
    )

some_behind : (o : Option Path) → is_some o ≡ true → (s : Path) × (o ≡ Some s)
some_behind None some = absurd (false≢true some)
some_behind (Some s) some = (s, refl)

pub trails_tell_below : TrailsTellBelow
trails_tell_below limits v p w trail n volume trails at_p other longer = (
  λ on_trail. let below = below_from (entries v) w p trail n trails at_p (λ q at_q. alone v volume.graph q p n at_q at_p other) on_trail in ap is_some below.1,
  λ begins. let rest = some_behind (behind p w) begins in below_to (entries v) w p trail n trails at_p rest.0 longer rest.1,
)

pub below_is_by_paths : BelowIsByPaths
below_is_by_paths limits v p w n k volume at_p at_w other = (
  λ (s, is).
      let there : number_at (entries v) (p ++ s) ≡ Some k = fold-append (enter (entries v)) (Some ROOT_NUMBER) p s ∙ ap (λ o. fold (enter (entries v)) o s) at_p ∙ is in
      let same : p ++ s ≡ w = alone v volume.graph (p ++ s) w k there at_w other in
      ap is_some (ap (behind p) (sym same) ∙ behind-append p s),
  λ begins.
      let rest = some_behind (behind p w) begins in
      let whole : w ≡ p ++ rest.0 = behind-is p w rest.0 rest.1 in (
        rest.0,
        ap (λ o. fold (enter (entries v)) o rest.0) (sym at_p) ∙ sym (fold-append (enter (entries v)) (Some ROOT_NUMBER) p rest.0) ∙ ap (number_at (entries v)) (sym whole) ∙ at_w,
      ),
)
