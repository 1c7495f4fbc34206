-- A directory has place for what is moved there.
use Rattle.std.proofs.Common.{◌≡◌, ◌≢◌, ◌≤◌, ◌↔◌, inl, inr, ℕ, false, Option, Some, None, IsSome, bytes_eq, refl, sym, ap, subst, ◌∙◌, arith}
use Rattle.std.proofs.lemmas.Bool.{both_ways, cases_Bool, cond-false, cond-true, false≢true}
use Rattle.std.proofs.lemmas.Slice.Eq.{bytes_eq-Decides}
use Rattle.model.specs.declared.limits.Limits.{Limits}
use Rattle.layout.specs.DirectoryNames.{NameMap}
use Rattle.layout.specs.declared.entry.Entry.{Entry}
use Rattle.model.specs.declared.attributes.Attributes.{Attributes}
use Rattle.model.specs.Counting.{Counts}
use Rattle.model.specs.Paths.{Name}
use Rattle.model.specs.Records.{rename}
use Rattle.model.specs.Volumes.{Node, Volume, directory_node, names_in}
use Rattle.model.proofs.CountLemmas.{one_less, same_count}
use Rattle.dirs.specs.Directory.{HasCount, with_name}
use Rattle.images.specs.Replaying.{LeavesPlace}
use Rattle.images.specs.Soundness.{Detail, by_bytes, by_sizes}
use Rattle.records.specs.Planning.{IsVolumeForEdit}
use Rattle.records.specs.Entering.{Accepts, HasPlace}
use Rattle.records.specs.Moving.{edit_for}
use Rattle.records.specs.declared.steps.ObjectUpdate.{ObjectUpdate}
use Rattle.model.proofs.OptionLaws.{absent, none_some}
use Rattle.model.proofs.ListingLemmas.{names_apart}

-- the other names are those that are left
left_names : (names : NameMap) (x b : Name) → IsSome (with_name x None names b) ↔ (IsSome (names b) × (b ≢ x))
left_names names x b = (
  λ is. elim (cases_Bool (bytes_eq b x)) [
    | inl same ↦ absurd (false≢true (subst (λ (o : Option ℕ). IsSome o) (cond-true (bytes_eq b x) None (names b) same) is))
    | inr other ↦ (
      subst (λ (o : Option ℕ). IsSome o) (cond-false (bytes_eq b x) None (names b) other) is,
      λ e. both_ways (bytes_eq b x) other ((bytes_eq-Decides b x).1 e),
    )
  ],
  λ is. elim (cases_Bool (bytes_eq b x)) [
    | inl same ↦ absurd (is.1 ((bytes_eq-Decides b x).0 same))
    | inr other ↦ subst (λ (o : Option ℕ). IsSome o) (sym (cond-false (bytes_eq b x) None (names b) other)) is.0
  ],
)

-- where a name goes that was there, a directory within the limit has place for one
pub place_left : (limits : Limits) (names : NameMap) (x : Name) (n count : ℕ) → names x ≡ Some n → HasCount names count → count ≤ limits.directory_names → HasPlace limits (with_name x None names)
place_left limits names x n count is counts most =
    let less = one_less (λ (y : Name). IsSome (names y)) x count names_apart (subst (λ (o : Option ℕ). IsSome o) (sym is) refl) counts in
    let same = less.1 in
    record {
      count = less.0;
      counts = same_count (λ (b : Name). IsSome (names b) × (b ≢ x)) (λ (b : Name). IsSome (with_name x None names b)) less.0 (λ b. ((left_names names x b).1, (left_names names x b).0)) less.2;
      room = omega (arith, same, most);
    }

-- where another name goes, a directory has no more names than before
left_count : (names : NameMap) (y : Name) (count : ℕ) → HasCount names count → (rest : ℕ) × (rest ≤ count) × HasCount (with_name y None names) rest
left_count names y count counts = by (names y) refl
  where
    by : (o : Option ℕ) → names y ≡ o → (rest : ℕ) × (rest ≤ count) × HasCount (with_name y None names) rest
    by None none = (
      count,
      omega arith,
      same_count (λ (b : Name). IsSome (names b)) (λ (b : Name). IsSome (with_name y None names b)) count (λ b. (
        λ is. (left_names names y b).1 (is, λ same. none_some (sym none ∙ ap names (sym same) ∙ is_some_of (names b) is)),
        λ is. ((left_names names y b).0 is).0,
      )) counts,
    )
      where
        is_some_of : (o : Option ℕ) → IsSome o → o ≡ Some (elim o as (λ _. ℕ) [ Some n ↦ n | None ↦ 0 ])
        is_some_of None is = absurd (false≢true is)
        is_some_of (Some n) is = refl
    by (Some n) is =
        let less = one_less (λ (b : Name). IsSome (names b)) y count names_apart (subst (λ (o : Option ℕ). IsSome o) (sym is) refl) counts in
        let same = less.1 in
        (less.0, omega arith, same_count (λ (b : Name). IsSome (names b) × (b ≢ y)) (λ (b : Name). IsSome (with_name y None names b)) less.0 (λ b. ((left_names names y b).1, (left_names names y b).0)) less.2)

-- where one name goes and another one that was there, a directory within the limit has place for one
place_moved : (limits : Limits) (names : NameMap) (x y : Name) (n count : ℕ) → names x ≡ Some n → x ≢ y → HasCount names count → count ≤ limits.directory_names → HasPlace limits (with_name x None (with_name y None names))
place_moved limits names x y n count is apart counts most =
    let rest = left_count names y count counts in
    let fewer = rest.1 in
    let other : bytes_eq x y ≡ false = elim (cases_Bool (bytes_eq x y)) [ inl same ↦ absurd (apart ((bytes_eq-Decides x y).0 same)) | inr other ↦ other ] in
    place_left limits (with_name y None names) x n rest.0 (cond-false (bytes_eq x y) None (names x) other ∙ is) rest.2 (omega (arith, fewer, most))

-- ---- a directory has place for what is moved there, by its limit or as it is known of the record

-- where the name was in the directory itself
pub place_inside : (detail : Detail) (limits : Limits) (v : Volume) (d : ℕ) (x : Name) (n k : ℕ) (y : Name) (attributes : Attributes) (names : NameMap) → v k ≡ Some (directory_node attributes names) → names x ≡ Some n
    → d ≡ k → x ≢ y → IsVolumeForEdit detail limits (rename d x k y) v → HasPlace limits (with_name x None (with_name y None names))
place_inside by_bytes limits v d x n k y attributes names is there same apart volume =
    let (count, counts, most) = volume.keeps.children k in
    place_moved limits names x y n count there apart (subst (λ (o : Option Node). Counts (λ (b : Name). IsSome (names_in o b)) count) is counts) most
place_inside by_sizes limits v d x n k y attributes names is there same apart volume =
    let (count, counts, room) = volume.1 in
    record {
      count = count;
      counts = same_count (λ (b : Name). IsSome (names b) × (b ≢ y) × (d ≡ k → b ≢ x)) (λ (b : Name). IsSome (with_name x None (with_name y None names) b)) count (λ b. (
        (λ (some, not_new, not_old). (left_names (with_name y None names) x b).1 ((left_names names y b).1 (some, not_new), not_old same)),
        (λ some. let one = (left_names (with_name y None names) x b).0 some in let two = (left_names names y b).0 one.0 in (two.0, two.1, λ _. one.1)),
      )) (subst (λ (o : Option Node). Counts (λ (b : Name). IsSome (names_in o b) × (b ≢ y) × (d ≡ k → b ≢ x)) count) is counts);
      room = room;
    }

-- where it was in another one, and the new name goes
pub place_across : (detail : Detail) (limits : Limits) (v : Volume) (d : ℕ) (x : Name) (m k : ℕ) (y : Name) (attributes : Attributes) (names : NameMap) → v k ≡ Some (directory_node attributes names) → names y ≡ Some m
    → d ≢ k → IsVolumeForEdit detail limits (rename d x k y) v → HasPlace limits (with_name y None names)
place_across by_bytes limits v d x m k y attributes names is there other volume =
    let (count, counts, most) = volume.keeps.children k in
    place_left limits names y m count there (subst (λ (o : Option Node). Counts (λ (b : Name). IsSome (names_in o b)) count) is counts) most
place_across by_sizes limits v d x m k y attributes names is there other volume =
    let (count, counts, room) = volume.1 in
    record {
      count = count;
      counts = same_count (λ (b : Name). IsSome (names b) × (b ≢ y) × (d ≡ k → b ≢ x)) (λ (b : Name). IsSome (with_name y None names b)) count (λ b. (
        (λ (some, not_new, not_old). (left_names names y b).1 (some, not_new)),
        (λ some. let two = (left_names names y b).0 some in (two.0, two.1, λ same. absurd (other same))),
      )) (subst (λ (o : Option Node). Counts (λ (b : Name). IsSome (names_in o b) × (b ≢ y) × (d ≡ k → b ≢ x)) count) is counts);
      room = room;
    }

-- ---- and what is found to have place for it is within the limits

-- where the name was in the directory itself
pub leaves_inside : (limits : Limits) (v : Volume) (d : ℕ) (x : Name) (k : ℕ) (y : Name) (attributes : Attributes) (names : NameMap) → v k ≡ Some (directory_node attributes names) → d ≡ k
    → HasPlace limits (with_name x None (with_name y None names)) → LeavesPlace limits v (rename d x k y)
leaves_inside limits v d x k y attributes names is same place = (
  place.count,
  subst (λ (o : Option Node). Counts (λ (b : Name). IsSome (names_in o b) × (b ≢ y) × (d ≡ k → b ≢ x)) place.count) (sym is)
      (same_count (λ (b : Name). IsSome (with_name x None (with_name y None names) b)) (λ (b : Name). IsSome (names b) × (b ≢ y) × (d ≡ k → b ≢ x)) place.count (λ b. (
        (λ some. let one = (left_names (with_name y None names) x b).0 some in let two = (left_names names y b).0 one.0 in (two.0, two.1, λ _. one.1)),
        (λ (some, not_new, not_old). (left_names (with_name y None names) x b).1 ((left_names names y b).1 (some, not_new), not_old same)),
      )) place.counts),
  place.room,
)

-- where it was in another one, and the new name goes
leaves_across : (limits : Limits) (v : Volume) (d : ℕ) (x : Name) (k : ℕ) (y : Name) (attributes : Attributes) (names : NameMap) → v k ≡ Some (directory_node attributes names) → d ≢ k
    → HasPlace limits (with_name y None names) → LeavesPlace limits v (rename d x k y)
leaves_across limits v d x k y attributes names is other place = (
  place.count,
  subst (λ (o : Option Node). Counts (λ (b : Name). IsSome (names_in o b) × (b ≢ y) × (d ≡ k → b ≢ x)) place.count) (sym is)
      (same_count (λ (b : Name). IsSome (with_name y None names b)) (λ (b : Name). IsSome (names b) × (b ≢ y) × (d ≡ k → b ≢ x)) place.count (λ b. (
        (λ some. let two = (left_names names y b).0 some in (two.0, two.1, λ same. absurd (other same))),
        (λ (some, not_new, not_old). (left_names names y b).1 (some, not_new)),
      )) place.counts),
  place.room,
)

pub leaves_other : (limits : Limits) (v : Volume) (d : ℕ) (x : Name) (k : ℕ) (step : Option ObjectUpdate) (entry : Entry) → d ≢ k → Accepts limits (edit_for entry step) (v k) → LeavesPlace limits v (rename d x k entry.name.now)
leaves_other limits v d x k (Some step) entry other accepts = leaves_across limits v d x k entry.name.now accepts.attributes accepts.names accepts.is other accepts.takes
leaves_other limits v d x k None entry other accepts =
    let y = entry.name.now in
    let names = accepts.names in
    let place = accepts.takes.place in
    leaves_across limits v d x k y accepts.attributes names accepts.is other (record {
      count = place.count;
      counts = same_count (λ (b : Name). IsSome (names b)) (λ (b : Name). IsSome (with_name y None names b)) place.count (λ b. (
        (λ some. (left_names names y b).1 (some, λ same. absent (names y) accepts.takes.missing (subst (λ (z : Name). IsSome (names z)) same some))),
        (λ some. ((left_names names y b).0 some).0),
      )) place.counts;
      room = place.room;
    })
