-- Where names lead from a number, told of what stands there.
use Rattle.std.proofs.Common.{◌≡◌, ◌≢◌, ◌⊎◌, inl, inr, ◌∙◌, ◌<◌, ◌≤◌, ℕ, Bool, true, false, List, [], ◌∷◌, Option, Some, None, IsSome, Result, IsFalse, refl, sym, ap, subst, arith}
use Rattle.std.proofs.lemmas.Bool.{cases_Bool, cond-true, cond-false}
use Rattle.std.proofs.lemmas.Bool.Decides.{nat_tests}
use Rattle.std.proofs.lemmas.Result.{IfOk-weaker}
use Rattle.std.specs.List.{list_any}
use Rattle.layout.specs.StateLimits.{limits_of}
use Rattle.buffers.specs.declared.error.BlockError.{BlockError}
use Rattle.buffers.specs.declared.blocks.Blocks.{Ghosts}
use Rattle.inofile.specs.declared.inode_file.InodeFile.{InodeFile}
use Rattle.model.specs.declared.errno.Errno.TheVariants.{ELOOP, ENOTDIR, ESTALE}
use Rattle.model.specs.declared.limits.Limits.{Limits}
use Rattle.model.specs.declared.limits.TheConstants.{ROOT_NUMBER}
use Rattle.model.specs.Finding.{IsPlaceAt, find_within, trail_from}
use Rattle.model.specs.Laws.{ResolvesFromNumbers, VolumesTellNumbers}
use Rattle.model.specs.Paths.{Name, is_dot_dot, is_empty}
use Rattle.model.specs.Resolution.{refused, resolve_within}
use Rattle.model.specs.Trees.{Description, IsNumbered, Object, directory, is_directory, symlink}
use Rattle.model.specs.Volumes.{IsVolume, Node, Volume, directory_node, file_node, is_directory_node, is_placed_node, link_node, object_of, tree_of}
use Rattle.paths.specs.Ends.{EndsInName, EndsWell, IsAtName, TellsName}
use Rattle.paths.specs.Numbers.{IsInodeNumber}
use Rattle.paths.specs.Loads.{LooksUp}
use Rattle.paths.specs.Places.{model_place_of}
use Rattle.paths.specs.Resolves.{ResolvesFrom}
use Rattle.paths.specs.Starts.{IsTargetAtName, IsTargetWithin, TargetEndsWell, TargetTellsName, TellsFrom}
use Rattle.paths.specs.Steps.{found_in, placed_in}
use Rattle.paths.specs.Targets.{target_alone}
use Rattle.paths.specs.declared.lookup.Found.{Found}
use Rattle.paths.specs.declared.lookup.Found.TheVariants as found
use Rattle.paths.specs.declared.place.Place.{Place}
use Rattle.paths.specs.declared.place.Place.TheVariants.{Refusal}
use Rattle.paths.specs.declared.place.Target.{Target}
use Rattle.paths.specs.declared.place.Target.TheVariants as target
use Rattle.paths.proofs.EndLaws.{ends_at_name_from, ends_well_from, found_directory}
use Rattle.paths.proofs.PlaceTells.{tells_name}

-- this target is where names lead from a number
pub record IsToldFrom (limits : Limits) (follow : Bool) (names : List Name) (n : ℕ) (v : Volume) (x : Target) : Type 0 where
  pub found : (table : ℕ → Option Description) → IsVolume limits v → IsFalse (list_any is_dot_dot names) → TellsFrom (tree_of v table) v follow names n x
  pub ends : IsVolume limits v → TargetEndsWell v follow x
  pub named : IsFalse follow → EndsInName names → IsTargetAtName x
  pub tells : TargetTellsName v x

-- an object by its number alone has no names behind it
abbrev pub AreNoneBehind : List Name → Target → Type 0
AreNoneBehind names x = (k : ℕ) → x ≡ target.Object k → is_empty names ≡ true

pub resolves_from : {B : Type 0} {G : Ghosts B} {a b : B} {s t : InodeFile} {n : ℕ} {names : List Name} {follow : Bool} {r : Result Target BlockError}
    → LooksUp G a b s t (λ x. IsTargetWithin s.geometry.inodes x × AreNoneBehind names x) (IsToldFrom (limits_of s.geometry) follow names n) r
    → ResolvesFrom G a b s t n names follow r
resolves_from {s = s} {n = n} {names = names} {follow = follow} {r = r} up = record {
  looks = up.looks;
  loads = up.loads;
  within = IfOk-weaker r (λ x. IsTargetWithin s.geometry.inodes x × AreNoneBehind names x) _ (λ x w. w.0) up.within;
  found = λ disk settled v table stands volume level. IfOk-weaker r (IsToldFrom (limits_of s.geometry) follow names n v) _ (λ x told. told.found table volume level) (up.found disk settled v stands);
  ends = λ disk settled v stands volume. IfOk-weaker r (IsToldFrom (limits_of s.geometry) follow names n v) _ (λ x told. told.ends volume) (up.found disk settled v stands);
  named = λ disk settled v stands not plain. IfOk-weaker r (IsToldFrom (limits_of s.geometry) follow names n v) _ (λ x told. told.named not plain) (up.found disk settled v stands);
  tells = λ disk settled v stands. IfOk-weaker r (IsToldFrom (limits_of s.geometry) follow names n v) _ (λ x told. told.tells) (up.found disk settled v stands);
  alone = IfOk-weaker r (λ x. IsTargetWithin s.geometry.inodes x × AreNoneBehind names x) _ (λ x w. w.1) up.within;
  damaged = up.damaged;
}

-- ---- what stands at a number

not_placed : (o : Option Node) → placed_in o ≡ found.Nothing → is_placed_node o ≡ false
not_placed None is = refl
not_placed (Some (directory_node attributes names)) is = absurd cc
not_placed (Some (file_node attributes links bytes)) is =
    elim (cases_Bool (is_placed_node (Some (file_node attributes links bytes)))) [
      | inl t ↦ let file : found.File ≡ found.Nothing = sym (cond-true (is_placed_node (Some (file_node attributes links bytes))) found.File found.Nothing t) ∙ is in absurd cc
      | inr f ↦ f
    ]
not_placed (Some (link_node attributes text)) is = absurd cc

pub placed : (o : Option Node) (f : Found) → f ≢ found.Nothing → placed_in o ≡ f → (is_placed_node o ≡ true) × (found_in o ≡ f)
placed o f some is =
    elim (cases_Bool (is_placed_node o)) [
      | inl t ↦ (t, sym (cond-true (is_placed_node o) (found_in o) found.Nothing t) ∙ is)
      | inr g ↦ absurd (some (sym is ∙ cond-false (is_placed_node o) (found_in o) found.Nothing g))
    ]

object_not_directory : (n : ℕ) (o : Option Node) (object : Object) → found_in o ≢ found.Directory → object_of n o ≡ Some object → is_directory (Some object) ≡ false
object_not_directory n None object other is = absurd cc
object_not_directory n (Some (directory_node attributes names)) object other is = absurd (other refl)
object_not_directory n (Some (file_node attributes links bytes)) object other is = ap is_directory (sym is)
object_not_directory n (Some (link_node attributes text)) object other is = ap is_directory (sym is)

object_directory : (n : ℕ) (o : Option Node) (object : Object) → found_in o ≡ found.Directory → object_of n o ≡ Some object → object ≡ directory n
object_directory n None object is same = absurd cc
object_directory n (Some (directory_node attributes names)) object is same = cc
object_directory n (Some (file_node attributes links bytes)) object is same = absurd cc
object_directory n (Some (link_node attributes text)) object is same = absurd cc

object_link : (n : ℕ) (o : Option Node) (object : Object) → found_in o ≡ found.Link → object_of n o ≡ Some object → (text : List ℕ) × (object ≡ symlink n text)
object_link n None object is same = absurd cc
object_link n (Some (directory_node attributes names)) object is same = absurd cc
object_link n (Some (file_node attributes links bytes)) object is same = absurd cc
object_link n (Some (link_node attributes text)) object is same = (text, cc)

node_directory : (o : Option Node) → found_in o ≡ found.Directory → is_directory_node o ≡ true
node_directory None is = absurd cc
node_directory (Some (directory_node attributes names)) is = refl
node_directory (Some (file_node attributes links bytes)) is = absurd cc
node_directory (Some (link_node attributes text)) is = absurd cc

-- no object has a number below the root's, or none of the image
pub outside : (limits : Limits) (n : ℕ) (v : Volume) → IsVolume limits v → (n < ROOT_NUMBER) ⊎ ((ROOT_NUMBER < limits.inodes) × (limits.inodes ≤ n)) → is_placed_node (v n) ≡ false
outside limits n v volume out = of (v n) (volume.keeps.numbers n)
  where
    of : (o : Option Node) → (IsSome o → (n ≡ ROOT_NUMBER) ⊎ ((4 ≤ n) × (n < limits.inodes))) → is_placed_node o ≡ false
    of None within = refl
    of (Some node) within = absurd (elim out [
      | inl low ↦ elim (within refl) [ inl is ↦ omega (arith, low, is) | inr in_range ↦ omega (arith, low, in_range.0) ]
      | inr high ↦ elim (within refl) [ inl is ↦ omega (arith, high.0, high.1, is) | inr in_range ↦ omega (arith, high.1, in_range.1) ]
    ])

-- ---- where names lead from it

module _ (law : VolumesTellNumbers) (limits : Limits) (v : Volume) (follow : Bool) (names : List Name) (n : ℕ) where
  -- from nothing
  pub told_nothing : (IsVolume limits v → is_placed_node (v n) ≡ false) → IsToldFrom limits follow names n v (target.Place (Refusal ESTALE))
  told_nothing none = record {
    found = λ table volume level.
        (refused ESTALE, inr (inr (inr (record { none = (law limits v table n volume).1 (none volume); is = refl }))), refl);
    ends = λ volume. tt;
    named = λ not plain. tt;
    tells = tt;
  }

  pub told_no_object : placed_in (v n) ≡ found.Nothing → IsToldFrom limits follow names n v (target.Place (Refusal ESTALE))
  told_no_object is = told_nothing (λ volume. not_placed (v n) is)

  -- from an object that is no directory
  module _ (kind : Found) (some : kind ≢ found.Nothing) (other : kind ≢ found.Directory) (is : placed_in (v n) ≡ kind) where
    here_is : (is_placed_node (v n) ≡ true) × (found_in (v n) ≡ kind)
    here_is = placed (v n) kind some is

    no_directory : found_in (v n) ≢ found.Directory
    no_directory is_one = other (sym here_is.1 ∙ is_one)

    told : (follows none : Bool) → is_empty names ≡ none → (follows ≡ true → (follow ≡ true) × (kind ≡ found.Link)) → (follows ≡ false → follow ≡ true → kind ≢ found.Link)
        → IsToldFrom limits follow names n v (target_alone n none follows)
    told follows false behind linked unlinked = record {
      found = λ table volume level.
          let at = (law limits v table n volume).0 here_is.0 in
          (refused ENOTDIR, inr (inl (record { object = at.0; has = at.2; other = object_not_directory n (v n) at.0 no_directory at.1; some = behind; is = refl })), refl);
      ends = λ volume. tt;
      named = λ not plain. tt;
      tells = tt;
    }
    told true true behind linked unlinked = record {
      found = λ table volume level.
          let at = (law limits v table n volume).0 here_is.0 in
          let link = object_link n (v n) at.0 (here_is.1 ∙ (linked refl).1) at.1 in
          (refused ELOOP, inr (inr (inl (record { text = link.0; has = subst (IsNumbered (tree_of v table) n) link.1 at.2; none = behind; follows = (linked refl).0; is = refl }))), refl);
      ends = λ volume. tt;
      named = λ not plain. tt;
      tells = tt;
    }
    told false true behind linked unlinked = record {
      found = λ table volume level.
          let at = (law limits v table n volume).0 here_is.0 in
          (refl, record { object = at.0; here = at.1; has = at.2; other = object_not_directory n (v n) at.0 no_directory at.1; none = behind; unfollowed = λ follows link. unlinked refl follows (sym here_is.1 ∙ link) });
      ends = λ volume follows link. unlinked refl follows (sym here_is.1 ∙ link);
      named = λ not plain. no_names names behind plain;
      tells = tt;
    }
      where
        no_names : (names : List Name) → is_empty names ≡ true → EndsInName names → ⊥
        no_names [] none plain = plain
        no_names (x ∷ names) none plain = grind (arith, nat_tests, none)

    pub told_alone : (follows : Bool) → (follows ≡ true → (follow ≡ true) × (kind ≡ found.Link)) → (follows ≡ false → follow ≡ true → kind ≢ found.Link)
        → IsToldFrom limits follow names n v (target_alone n (is_empty names) follows)
    told_alone follows linked unlinked = told follows (is_empty names) refl linked unlinked

  -- from a directory
  pub told_directory : (laws : ResolvesFromNumbers) (p : Place) → placed_in (v n) ≡ found.Directory → model_place_of p ≡ find_within 0 v follow (trail_from n) names
      → IsToldFrom limits follow names n v (target.Place p)
  told_directory laws p is leads =
      let here_is = placed (v n) found.Directory (λ e. cc) is in
      record {
        found = λ table volume level.
            let at = (law limits v table n volume).0 here_is.0 in
            let to = laws limits v table follow n names volume (node_directory (v n) here_is.1) level in (
              resolve_within 0 (tree_of v table) follow to.0 names,
              inl (record { path = to.0; object = subst (IsNumbered (tree_of v table) n) (object_directory n (v n) at.0 here_is.1 at.1) at.2; stands = to.1; is = refl }),
              subst (λ place. IsPlaceAt v place (resolve_within 0 (tree_of v table) follow to.0 names)) (sym leads) to.2,
            );
        ends = λ volume. subst (EndsWell v follow) (sym leads) (ends_well_from v (found_directory (v 3) volume.graph.naming.root) follow n 0 names here_is.1);
        named = λ not plain. subst IsAtName (sym leads) (ends_at_name_from v follow n 0 names not plain);
        tells = subst (TellsName v) (sym leads) (tells_name v follow 0 (trail_from n) names);
      }

-- within its limits
pub alone_within : (inodes n : ℕ) (none follows : Bool) → IsInodeNumber inodes n → IsTargetWithin inodes (target_alone n none follows)
alone_within inodes n true true is = refl
alone_within inodes n true false is = is
alone_within inodes n false follows is = refl

pub alone_behind : (n : ℕ) (names : List Name) (none follows : Bool) → is_empty names ≡ none → AreNoneBehind names (target_alone n none follows)
alone_behind n names true follows is k same = is
alone_behind n names false follows is k same = absurd cc
