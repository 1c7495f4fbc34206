use Rattle.std.proofs.Common.{ℕ, ◌≤◌, ap, arith, refl, subst, sym, rules}
use Rattle.std.specs.Prelude.{All}
use Rattle.conspoint.specs.Cuts.{disk_with_blocks}
use Rattle.conspoint.specs.Drafts.{HasAll}
use Rattle.conspoint.specs.Plans.{Planned}
use Rattle.making.specs.Starts.{IsEmptyMap, nothing}
use Rattle.making.proofs.RoomLaws.{few_given_out, memory_alone, refused_so}
use Rattle.making.proofs.RootLaws.{first_is, reserve_is, root_is}
use Rattle.making.proofs.first.plan_first.Goals as goal

pub returns-clause-point : goal.returns-clause-point
returns-clause-point c =
    let d = c.plan_files.new.draft in
    let has = c.in_ok-inode_file.ensures.tree in
    let within = c.blocks-2.ensures.within in
    let plan = c.into_plan-map.ensures.plan in
    let start = subst (λ (n : ℕ). IsEmptyMap n c.new-draft.result.map) c.blocks-2.ensures.value (subst (IsEmptyMap c.blocks-2.result) (sym c.new-draft.ensures.map) c.in_ok-empty_map.ensures) in
    record {
      none = ap (λ (p : Planned). p.written) plan;
      slot = ap (λ (p : Planned). p.slot) plan;
      bytes = search rules;
      fits = λ sectors least most. c.into_plan-map.ensures.fits sectors least (omega (arith, most, c.plan_files.ensures.grows.count, start.count));
      behind = subst (λ (p : Planned). All (λ b. 2 ≤ b.place) p.blocks) (sym plan) d.drafted.planned.behind;
      root = root_is _ d refl c.requires refl within refl has (disk_with_blocks d.blocks.items nothing) (c.written_disks_have_the_blocks.ensures.has d.blocks.items nothing d.drafted.planned.apart);
      generation = refl;
      geometry = refl;
      version = refl;
      holds = λ e all. c.first_roots_hold.ensures _ e has.numbers has.map (first_is _ d refl c.requires refl within refl has e (subst (λ (p : Planned). HasAll e p.blocks) plan all));
      room = λ e all. reserve_is _ d refl c.requires refl within refl has e (subst (λ (p : Planned). HasAll e p.blocks) plan all)
          (few_given_out c.args.geometry.blocks c.new-draft.result d within.least_blocks start c.plan_files.ensures.grows c.in_ok-inode_file.ensures.takes);
    }

pub returns-in_err-inode_file-clause-memory : goal.returns-in_err-inode_file-clause-memory
returns-in_err-inode_file-clause-memory c =
    let e = c.in_err-inode_file.field-0.0 in
    refused_so e c.from_residual-in_err-inode_file.result (search rules) (memory_alone e c.in_err-inode_file.ensures.shortage c.in_err-inode_file.ensures.room)
