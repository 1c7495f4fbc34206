-- What stands where a walk along a path ends.
use Rattle.std.proofs.Common.{◌≡◌, ◌≢◌, ◌∙◌, ℕ, zero, suc, ◌-◌, Bool, true, false, not, ◌&&◌, IsTrue, List, [], ◌∷◌, ◌++◌, length, Option, Some, None, refl, sym, ap, subst, arith}
use Rattle.std.specs.Prelude.{if◌then◌else◌, All}
use Rattle.std.proofs.lemmas.Bool.{cond_both, false≢true}
use Rattle.std.proofs.lemmas.List.Elements.{All-nil, All-append, All-take, All-get_or, All-cons}
use Rattle.model.specs.declared.errno.Errno.TheVariants.{ENOENT, ENOTDIR, ELOOP}
use Rattle.model.specs.Finding.{Place, at_entry, at_missing, at_refusal, here, WalkEnd, halts, halts_at_link, Turn, stays_on, enters, ends_at, follows, finds_nothing, finds_damage, finds_long, turn, turn_at, turn_by, find_along, find_on, find_within, trail_from}
use Rattle.model.specs.Paths.{Name, parts, is_dot, is_dot_dot, is_empty, is_too_long, starts_with_slash}
use Rattle.model.specs.Volumes.{Node, directory_node, file_node, link_node, Volume, entries, is_directory_node}
use Rattle.paths.specs.Ends.{EndsWell, EndsInName, IsAtName}
use Rattle.paths.specs.Steps.{after_turn, found_in}
use Rattle.paths.specs.declared.lookup.Found.{Found}
use Rattle.paths.specs.declared.lookup.Found.TheVariants as found

pub found_directory : (o : Option Node) → IsTrue (is_directory_node o) → found_in o ≡ found.Directory
found_directory None is = absurd (false≢true is)
found_directory (Some (directory_node attributes names)) is = refl
found_directory (Some (file_node attributes links bytes)) is = absurd (false≢true is)
found_directory (Some (link_node attributes text)) is = absurd (false≢true is)

not_followed : {X : Type 0} (a follow : Bool) → (a && not follow) ≡ true → follow ≡ true → X
not_followed true true e is = absurd (false≢true e)
not_followed false true e is = absurd (false≢true e)
not_followed a false e is = absurd (false≢true is)

no_link : (f g : Found) → f ≡ g → g ≢ found.Link → f ≢ found.Link
no_link f g same other is = other (sym same ∙ is)

-- ---- directories on the way

module _ (v : Volume) (root : found_in (v 3) ≡ found.Directory) where
  abbrev IsDirectory : ℕ → Type 0
  IsDirectory n = found_in (v n) ≡ found.Directory

  abbrev AreDirectories : List ℕ → Type 0
  AreDirectories trail = All IsDirectory trail

  here_directory : (trail : List ℕ) → AreDirectories trail → IsDirectory (here trail)
  here_directory [] all = root
  here_directory (n ∷ trail) all = All-get_or IsDirectory (n ∷ trail) (length (n ∷ trail) - 1) 3 (omega arith) all

  abbrev TurnsWell : Turn → Type 0
  TurnsWell (stays_on trail) = AreDirectories trail
  TurnsWell (enters n) = IsDirectory n
  TurnsWell (ends_at n) = found_in (v n) ≡ found.File
  TurnsWell _ = Unit {0}

  at_node : (n : ℕ) (o : Option Node) → v n ≡ o → TurnsWell (turn_at n o)
  at_node n None is = tt
  at_node n (Some (directory_node attributes names)) is = ap found_in is
  at_node n (Some (file_node attributes links bytes)) is = ap found_in is
  at_node n (Some (link_node attributes text)) is = tt

  by_name : (o : Option ℕ) → TurnsWell (turn_by v o)
  by_name None = tt
  by_name (Some n) = at_node n (v n) refl

  turns_well : (trail : List ℕ) (part : Name) → AreDirectories trail → TurnsWell (turn v trail part)
  turns_well trail part all =
      cond_both (is_dot part) _ _ TurnsWell (λ e. all) (λ e.
      cond_both (is_dot_dot part) _ _ TurnsWell (λ f. All-take IsDirectory (length trail - 1) trail all) (λ f.
      cond_both (is_too_long part) _ _ TurnsWell (λ g. tt) (λ g. by_name (entries v (here trail) part))))

  module _ (follow : Bool) where
    abbrev HaltsWell : WalkEnd → Type 0
    HaltsWell (halts place) = EndsWell v follow place
    HaltsWell (halts_at_link trail text rest) = AreDirectories trail

    along : (names : List Name) (trail : List ℕ) → AreDirectories trail → HaltsWell (find_along v follow trail names)
    along [] trail all = here_directory trail all
    along (part ∷ rest) trail all =
        elim (turn v trail part) as (λ t. TurnsWell t → HaltsWell (after_turn v follow trail part rest t)) [
          | stays_on next ↦ λ well. along rest next well
          | enters n ↦ λ well.
              cond_both (is_empty rest) (halts (at_entry trail part n)) (find_along v follow (trail ++ n ∷ []) rest) HaltsWell
              (λ e is. no_link (found_in (v n)) found.Directory well (λ (f : found.Directory ≡ found.Link). cc))
              (λ e. along rest (trail ++ n ∷ []) (All-append IsDirectory trail (n ∷ []) all (All-cons IsDirectory n [] well (All-nil IsDirectory))))
          | ends_at n ↦ λ well.
              cond_both (is_empty rest) (at_entry trail part n) (at_refusal ENOTDIR) (EndsWell v follow)
              (λ e is. no_link (found_in (v n)) found.File well (λ (f : found.File ≡ found.Link). cc)) (λ e. tt)
          | follows n text ↦ λ well.
              cond_both (is_empty rest && not follow) (halts (at_entry trail part n)) (halts_at_link trail text rest) HaltsWell
              (λ e is. not_followed (is_empty rest) follow e is) (λ e. all)
          | finds_nothing ↦ λ well. cond_both (is_empty rest) (at_missing trail part) (at_refusal ENOENT) (EndsWell v follow) (λ e. tt) (λ e. tt)
          | finds_damage ↦ λ well. tt
          | finds_long ↦ λ well. tt
        ] (turns_well trail part all)

    on : (f : List ℕ → List Name → Place) → ((trail : List ℕ) (names : List Name) → AreDirectories trail → EndsWell v follow (f trail names)) → (h : WalkEnd) → HaltsWell h
        → EndsWell v follow (find_on f h)
    on f well (halts place) ends = ends
    on f well (halts_at_link trail text rest) all =
        well (if starts_with_slash text then [] else trail) (parts text ++ rest)
        (cond_both (starts_with_slash text) [] trail AreDirectories (λ e. All-nil IsDirectory) (λ e. all))

    within : (links : ℕ) (trail : List ℕ) (names : List Name) → AreDirectories trail → EndsWell v follow (find_within links v follow trail names)
    within zero trail names all = on (λ _ _. at_refusal ELOOP) (λ trail names all. tt) (find_along v follow trail names) (along names trail all)
    within (suc links) trail names all = on (find_within links v follow) (within links) (find_along v follow trail names) (along names trail all)

    pub ends_well : (links : ℕ) (names : List Name) → EndsWell v follow (find_within links v follow [] names)
    ends_well links names = within links [] names (All-nil IsDirectory)

    -- from a directory with a number as well
    pub ends_well_from : (n links : ℕ) (names : List Name) → IsDirectory n → EndsWell v follow (find_within links v follow (trail_from n) names)
    ends_well_from n links names is = within links (trail_from n) names (All-cons IsDirectory n [] is (All-nil IsDirectory))

-- ---- a last part that is a name

name_behind : (x : Name) (names : List Name) → EndsInName names → EndsInName (x ∷ names)
name_behind x [] plain = absurd plain
name_behind x (y ∷ names) plain = plain

names_behind : (a b : List Name) → EndsInName b → EndsInName (a ++ b)
names_behind [] b plain = plain
names_behind (x ∷ a) b plain = name_behind x (a ++ b) (names_behind a b plain)

abbrev HaltsAtName : WalkEnd → Type 0
HaltsAtName (halts place) = IsAtName place
HaltsAtName (halts_at_link trail text rest) = EndsInName rest

abbrev TurnsByName : Name → Turn → Type 0
TurnsByName part (stays_on trail) = is_dot part ≡ false → is_dot_dot part ≡ false → ⊥
TurnsByName part _ = Unit {0}

module _ (v : Volume) where
  at_number : (part : Name) (n : ℕ) (o : Option Node) → TurnsByName part (turn_at n o)
  at_number part n None = tt
  at_number part n (Some (directory_node attributes names)) = tt
  at_number part n (Some (file_node attributes links bytes)) = tt
  at_number part n (Some (link_node attributes text)) = tt

  at_name : (part : Name) (o : Option ℕ) → TurnsByName part (turn_by v o)
  at_name part None = tt
  at_name part (Some n) = at_number part n (v n)

  turns_by_name : (trail : List ℕ) (part : Name) → TurnsByName part (turn v trail part)
  turns_by_name trail part =
      cond_both (is_dot part) _ _ (TurnsByName part) (λ e f g. absurd (false≢true (sym f ∙ e))) (λ e.
      cond_both (is_dot_dot part) _ _ (TurnsByName part) (λ f g h. absurd (false≢true (sym h ∙ f))) (λ f.
      cond_both (is_too_long part) _ _ (TurnsByName part) (λ g. tt) (λ g. at_name part (entries v (here trail) part))))

  along_names : (names : List Name) (trail : List ℕ) → EndsInName names → HaltsAtName (find_along v false trail names)
  along_names [] trail plain = absurd plain
  along_names (part ∷ []) trail plain =
      elim (turn v trail part) as (λ t. TurnsByName part t → HaltsAtName (after_turn v false trail part [] t)) [
        | stays_on next ↦ λ by. absurd (by plain.0 plain.1)
        | enters n ↦ λ by. tt
        | ends_at n ↦ λ by. tt
        | follows n text ↦ λ by. tt
        | finds_nothing ↦ λ by. tt
        | finds_damage ↦ λ by. tt
        | finds_long ↦ λ by. tt
      ] (turns_by_name trail part)
  along_names (part ∷ (y ∷ rest)) trail plain =
      elim (turn v trail part) as (λ t. TurnsByName part t → HaltsAtName (after_turn v false trail part (y ∷ rest) t)) [
        | stays_on next ↦ λ by. along_names (y ∷ rest) next plain
        | enters n ↦ λ by.
            cond_both (is_empty (y ∷ rest)) (halts (at_entry trail part n)) (find_along v false (trail ++ n ∷ []) (y ∷ rest)) HaltsAtName (λ e. tt)
            (λ e. along_names (y ∷ rest) (trail ++ n ∷ []) plain)
        | ends_at n ↦ λ by. cond_both (is_empty (y ∷ rest)) (at_entry trail part n) (at_refusal ENOTDIR) IsAtName (λ e. tt) (λ e. tt)
        | follows n text ↦ λ by.
            cond_both (is_empty (y ∷ rest) && not false) (halts (at_entry trail part n)) (halts_at_link trail text (y ∷ rest)) HaltsAtName (λ e. tt) (λ e. plain)
        | finds_nothing ↦ λ by. cond_both (is_empty (y ∷ rest)) (at_missing trail part) (at_refusal ENOENT) IsAtName (λ e. tt) (λ e. tt)
        | finds_damage ↦ λ by. tt
        | finds_long ↦ λ by. tt
      ] (turns_by_name trail part)

  on_names : (f : List ℕ → List Name → Place) → ((trail : List ℕ) (names : List Name) → EndsInName names → IsAtName (f trail names)) → (h : WalkEnd) → HaltsAtName h → IsAtName (find_on f h)
  on_names f named (halts place) ends = ends
  on_names f named (halts_at_link trail text rest) plain = named (if starts_with_slash text then [] else trail) (parts text ++ rest) (names_behind (parts text) rest plain)

  within_names : (links : ℕ) (trail : List ℕ) (names : List Name) → EndsInName names → IsAtName (find_within links v false trail names)
  within_names zero trail names plain = on_names (λ _ _. at_refusal ELOOP) (λ trail names plain. tt) (find_along v false trail names) (along_names names trail plain)
  within_names (suc links) trail names plain = on_names (find_within links v false) (within_names links) (find_along v false trail names) (along_names names trail plain)

  pub ends_at_name : (follow : Bool) (links : ℕ) (names : List Name) → follow ≡ false → EndsInName names → IsAtName (find_within links v follow [] names)
  ends_at_name follow links names not plain = subst (λ (b : Bool). IsAtName (find_within links v b [] names)) (sym not) (within_names links [] names plain)

  pub ends_at_name_from : (follow : Bool) (n links : ℕ) (names : List Name) → follow ≡ false → EndsInName names → IsAtName (find_within links v follow (trail_from n) names)
  ends_at_name_from follow n links names not plain = subst (λ (b : Bool). IsAtName (find_within links v b (trail_from n) names)) (sym not) (within_names links (trail_from n) names plain)
