-- Objects at hand behind a change, and files that it leaves with neither name nor descriptor.
use Rattle.std.proofs.Common.{◌≡◌, ◌⊎◌, inl, inr, ℕ, zero, suc, List, Bool, true, false, Option, Some, None, IfSome, refl, sym, ap, ◌∙◌}
use Rattle.std.specs.Option.{option_map}
use Rattle.std.proofs.Math.Path.{fun_ext}
use Rattle.std.proofs.lemmas.Bool.{cases_eq}
use Rattle.layout.specs.declared.inode.Inode.{Inode}
use Rattle.model.specs.Records.{Edit, edited}
use Rattle.model.specs.Trees.{Description}
use Rattle.model.specs.declared.limits.TheConstants.{OPEN_FILES}
use Rattle.model.specs.Volumes.{Node, directory_node, file_node, link_node, Volume, IsMounted, is_orphan, is_open, swept, swept_node, with_node}
use Rattle.model.proofs.RecordLemmas.{swept_twice}
use Rattle.model.proofs.SweepLemmas.{stays_open}
use Rattle.inofile.specs.declared.inode_file.InodeFile.{InodeFile}
use Rattle.records.specs.Plans.{DoesEdit}
use Rattle.images.specs.Soundness.{by_bytes}
use Rattle.records.specs.Steps.{IsAtHand, IsBeside, IsSomeAtHand, StepsSome}
use Rattle.records.specs.Sweeping.{without_file}
use Rattle.records.specs.declared.plans.Plan.{Plan}
use Rattle.records.specs.declared.steps.ObjectUpdate.{ObjectUpdate}
use Rattle.model.proofs.ObjectLaws.{node_here, node_other}

-- ---- objects at hand

-- the object of a step, by its number
pub number_at_hand : (s : InodeFile) (step : Option ObjectUpdate) → IsSomeAtHand s step → IfSome (option_map (λ (step : ObjectUpdate). step.number) step) (IsAtHand s)
number_at_hand s None is = tt
number_at_hand s (Some step) is = is

-- ---- one file

orphan_goes : (o : Option Node) → is_orphan o ≡ true → swept_node false o ≡ None
orphan_goes None is = cc
orphan_goes (Some (directory_node attributes names)) is = cc
orphan_goes (Some (link_node attributes text)) is = cc
orphan_goes (Some (file_node attributes zero bytes)) is = refl
orphan_goes (Some (file_node attributes (suc links) bytes)) is = cc

named_stays : (o : Option Node) → is_orphan o ≡ false → swept_node false o ≡ o
named_stays None is = refl
named_stays (Some (directory_node attributes names)) is = refl
named_stays (Some (link_node attributes text)) is = refl
named_stays (Some (file_node attributes zero bytes)) is = cc
named_stays (Some (file_node attributes (suc links) bytes)) is = refl

-- an object that is put in its own place changes nothing
pub node_same : (n : ℕ) (o : Option Node) (v : Volume) → v n ≡ o → v ≡ with_node n o v
node_same n o v same = fun_ext {f = v} {g = with_node n o v} (λ k. elim (cases_eq k n) [
  | inl here ↦ ap v here ∙ same ∙ sym (node_here n k o v here)
  | inr other ↦ sym (node_other n k o v other)
])

-- an orphan is dropped
pub dropped : (n : ℕ) (v : Volume) → is_orphan (v n) ≡ true → with_node n None v ≡ with_node n (swept_node false (v n)) v
dropped n v is = ap (λ (o : Option Node). with_node n o v) (sym (orphan_goes (v n) is))

-- anything else stays
pub kept : (n : ℕ) (v : Volume) → is_orphan (v n) ≡ false → v ≡ with_node n (swept_node false (v n)) v
kept n v is = node_same n (swept_node false (v n)) v (sym (named_stays (v n) is))

-- the number of a step, if there is one
abbrev pub number_of : Option ObjectUpdate → Option ℕ
number_of step = option_map (λ (step : ObjectUpdate). step.number) step

-- ---- the files of the numbers of a change

module _ (table : ℕ → Option Description) where
  -- what is open stays
  pub open_stays : (n : ℕ) (v : Volume) → is_open table OPEN_FILES n ≡ true → v ≡ without_file table (Some n) v
  open_stays n v is = node_same n (swept_node (is_open table OPEN_FILES n) (v n)) v (sym (ap (λ (b : Bool). swept_node b (v n)) is ∙ stays_open (v n)))

  -- what isn't open goes where it has no name
  pub closed_goes : (n : ℕ) (v : Volume) → is_open table OPEN_FILES n ≡ false → with_node n (swept_node false (v n)) v ≡ without_file table (Some n) v
  closed_goes n v is = ap (λ (b : Bool). with_node n (swept_node b (v n)) v) (sym is)

  -- an object of a volume is as before, or swept
  abbrev IsHalf : Volume → Volume → ℕ → Type 0
  IsHalf w x k = (x k ≡ w k) ⊎ (x k ≡ swept table w k)

  module _ (w x : Volume) (n k : ℕ) where
    abbrev sweeps : ℕ → Option Node → Option Node
    sweeps j o = swept_node (is_open table OPEN_FILES j) o

    abbrev after : Volume
    after = without_file table (Some n) x

    at_number : k ≡ n → after k ≡ sweeps k (x k)
    at_number here = node_here n k (sweeps n (x n)) x here ∙ ap (λ (m : ℕ). sweeps m (x m)) (sym here)

    stays_done : x k ≡ swept table w k → after k ≡ swept table w k
    stays_done is = elim (cases_eq k n) [
      | inl here ↦ at_number here ∙ ap (sweeps k) is ∙ swept_twice (is_open table OPEN_FILES k) (w k)
      | inr other ↦ node_other n k (sweeps n (x n)) x other ∙ is
    ]

    gets_done : IsHalf w x k → k ≡ n → after k ≡ swept table w k
    gets_done (inl same) here = at_number here ∙ ap (sweeps k) same
    gets_done (inr done) here = stays_done done

    stays_half : IsHalf w x k → IsHalf w after k
    stays_half (inl same) = elim (cases_eq k n) [
      | inl here ↦ inr (gets_done (inl same) here)
      | inr other ↦ inl (node_other n k (sweeps n (x n)) x other ∙ same)
    ]
    stays_half (inr done) = inr (stays_done done)

  some_done : (w x : Volume) (step : Option ObjectUpdate) (k : ℕ) → x k ≡ swept table w k → without_file table (number_of step) x k ≡ swept table w k
  some_done w x None k is = is
  some_done w x (Some step) k is = stays_done w x step.number k is

  some_half : (w x : Volume) (step : Option ObjectUpdate) (k : ℕ) → IsHalf w x k → IsHalf w (without_file table (number_of step) x) k
  some_half w x None k is = is
  some_half w x (Some step) k is = stays_half w x step.number k is

  -- each object is of a step's number, or of none
  some_or_beside : (w x : Volume) (step : Option ObjectUpdate) (k : ℕ) → IsHalf w x k → (without_file table (number_of step) x k ≡ swept table w k) ⊎ IsBeside k step
  some_or_beside w x None k is = inr tt
  some_or_beside w x (Some step) k is = elim (cases_eq k step.number) [ inl here ↦ inl (gets_done w x step.number k is here) | inr other ↦ inr (λ e. other (sym e)) ]

-- what a step isn't on stays
some_rest : (disk : ℕ → List ℕ) (settled : ℕ → Inode) (s : InodeFile) (v w : Volume) (step : Option ObjectUpdate) (k : ℕ) → StepsSome by_bytes disk settled s v step w → IsBeside k step → w k ≡ v k
some_rest disk settled s v w None k steps beside = ap (λ (x : Volume). x k) steps
some_rest disk settled s v w (Some step) k steps beside = ap (λ (x : Volume). x k) steps.2 ∙ node_other step.number k steps.0 v (λ e. beside (sym e))

module _ (disk : ℕ → List ℕ) (settled : ℕ → Inode) (s : InodeFile) (v : Volume) (p : Plan) (edit : Edit) (does : DoesEdit disk settled s v p edit) where
  abbrev w : Volume
  w = edited edit v

  -- so does what no step is on
  pub rest_stays : (k : ℕ) → IsBeside k (Some p.first) → IsBeside k p.next → IsBeside k p.last → w k ≡ v k
  rest_stays k first next last =
      some_rest disk settled s does.second w p.last k does.last last ∙ some_rest disk settled s does.between does.second p.next k does.next next
      ∙ some_rest disk settled s v does.between (Some p.first) k does.first first

  module _ (table : ℕ → Option Description) (mounted : IsMounted v table) where
    abbrev one : Volume
    one = without_file table (Some p.first.number) w

    abbrev two : Volume
    two = without_file table (number_of p.next) one

    abbrev three : Volume
    three = without_file table (number_of p.last) two

    untouched : (k : ℕ) → IsBeside k (Some p.first) → IsBeside k p.next → IsBeside k p.last → swept table w k ≡ w k
    untouched k first next last =
        let same = rest_stays k first next last in
        ap (swept_node (is_open table OPEN_FILES k)) same ∙ mounted.is_swept k ∙ sym same

    by_half : (k : ℕ) → swept table w k ≡ w k → IsHalf table w three k → three k ≡ swept table w k
    by_half k stays (inl same) = same ∙ sym stays
    by_half k stays (inr done) = done

    each_swept : (k : ℕ) → three k ≡ swept table w k
    each_swept k =
        let start : IsHalf table w w k = inl refl in
        let half_one = some_half table w w (Some p.first) k start in
        let half_two = some_half table w one p.next k half_one in
        elim (some_or_beside table w w (Some p.first) k start) [
          | inl done ↦ some_done table w two p.last k (some_done table w one p.next k done)
          | inr first ↦ elim (some_or_beside table w one p.next k half_one) [
            | inl done ↦ some_done table w two p.last k done
            | inr next ↦ elim (some_or_beside table w two p.last k half_two) [
              | inl done ↦ done
              | inr last ↦ by_half k (untouched k first next last) (some_half table w two p.last k half_two)
            ]
          ]
        ]

    -- without the files of its numbers that have neither name nor descriptor, what a change leaves is swept
    pub all_swept : (next last : Option ℕ) → next ≡ number_of p.next → last ≡ number_of p.last → without_file table last (without_file table next one) ≡ swept table w
    all_swept next last is_next is_last =
        ap (λ (n : Option ℕ). without_file table last (without_file table n one)) is_next ∙ ap (λ (n : Option ℕ). without_file table n two) is_last
        ∙ fun_ext {f = three} {g = swept table w} each_swept
