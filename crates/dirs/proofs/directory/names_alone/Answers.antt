use Rattle.std.proofs.Common.{◌≡◌, ◌∙◌, ℕ, IfOk, map, subst, ap, rules}
use Rattle.std.specs.Global.{Vec}
use Rattle.std.proofs.lemmas.Iterator.{YieldsList-from_map, items_from_collect}
use Rattle.std.proofs.lemmas.Iterator.Adapters.{YieldsList-from_vec}
use Rattle.std.proofs.lemmas.Iterator.Consumers.{YieldsList-at}
use Rattle.dirs.specs.declared.directory.NumberedName.{NumberedName}
use Rattle.dirs.proofs.ListingLaws.{items-names}
use Rattle.dirs.proofs.directory.names_alone.Goals as goal

pub returns : goal.returns
returns c =
    let same =
    items_from_collect c.collect.result c.collect.ensures.ran (YieldsList-from_map _ (λ (n : NumberedName). n.name)
    (YieldsList-at c.map.ensures.source (YieldsList-from_vec {s = c.into_iter.result} c.args.listed.items (search rules) (search rules))) c.map.ensures.closure (λ x r q k. search rules)) in
    let items = subst (λ r. IfOk r (λ v. v.items ≡ map (λ (n : NumberedName). n.name) c.args.listed.items)) c.in_ok-names.was same in
    c.new.ensures ∙ ap (map (λ (n : Vec ℕ). n.items)) items ∙ items-names c.args.listed.items
