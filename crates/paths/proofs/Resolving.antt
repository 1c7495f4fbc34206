-- Where the parts of a path lead, from where a walk by numbers ends.
use Rattle.std.proofs.Common.{◌≡◌, List, [], Bool, Result, sym, subst}
use Rattle.std.proofs.lemmas.Result.{IfOk-weaker}
use Rattle.layout.specs.StateLimits.{limits_of}
use Rattle.buffers.specs.declared.error.BlockError.{BlockError}
use Rattle.buffers.specs.declared.blocks.Blocks.{Ghosts}
use Rattle.inofile.specs.declared.inode_file.InodeFile.{InodeFile}
use Rattle.model.specs.Finding.{find_within}
use Rattle.model.specs.Laws.{ResolvesByNumbers}
use Rattle.model.specs.Paths.{Name}
use Rattle.model.specs.Volumes.{Volume}
use Rattle.paths.specs.Ends.{EndsWell, IsAtName}
use Rattle.paths.specs.Loads.{LooksUp}
use Rattle.paths.specs.Places.{model_place_of, IsPlaceWithin}
use Rattle.paths.specs.Resolves.{ResolvesParts}
use Rattle.paths.specs.declared.place.Place.{Place}
use Rattle.paths.proofs.EndLaws.{ends_at_name, ends_well, found_directory}
use Rattle.paths.proofs.Links.{leads}

-- this place is where they lead
abbrev pub IsLedTo : List Name → Bool → Volume → Place → Type 0
IsLedTo path follow v p = model_place_of p ≡ find_within 8 v follow [] path

pub resolves : {B : Type 0} {G : Ghosts B} {a b : B} {s t : InodeFile} {path : List Name} {follow : Bool} {r : Result Place BlockError} → ResolvesByNumbers
    → LooksUp G a b s t (IsPlaceWithin s.geometry.inodes) (IsLedTo path follow) r → ResolvesParts G a b s t path follow r
resolves {s = s} {path = path} {follow = follow} {r = r} law up = record {
  looks = up.looks;
  loads = up.loads;
  within = up.within;
  place = up.found;
  found = λ disk settled v table text stands volume are.
      IfOk-weaker r (IsLedTo path follow v) _ (λ p is. leads law (limits_of s.geometry) v table follow text path (model_place_of p) volume are is) (up.found disk settled v stands);
  ends = λ disk settled v stands volume.
      IfOk-weaker r (IsLedTo path follow v) _ (λ p is. subst (EndsWell v follow) (sym is) (ends_well v (found_directory (v 3) volume.graph.naming.root) follow 8 path)) (up.found disk settled v stands);
  named = λ disk settled v stands not plain.
      IfOk-weaker r (IsLedTo path follow v) _ (λ p is. subst IsAtName (sym is) (ends_at_name v follow 8 path not plain)) (up.found disk settled v stands);
  damaged = up.damaged;
}
