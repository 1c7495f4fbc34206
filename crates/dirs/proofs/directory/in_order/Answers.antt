use Rattle.std.proofs.Common.{◌≡◌, List, map, sym, subst, rules}
use Rattle.std.proofs.lemmas.Iterator.{YieldsList-from_map, items_from_collect}
use Rattle.std.proofs.lemmas.Iterator.Consumers.{YieldsList-at, YieldsList-from_rest}
use Rattle.std.proofs.lemmas.Result.{IfOk-weaker}
use Rattle.dirs.specs.Listings.{AreInOrder, numbered_of}
use Rattle.dirs.specs.declared.directory.NumberedName.{NumberedName}
use Rattle.dirs.proofs.ListingLaws.{collected_in_order}
use Rattle.dirs.proofs.directory.in_order.Goals as goal

pub returns : goal.returns
returns c =
    let entries = c.args.names.entries in
    let same =
    items_from_collect c.collect.result c.collect.ensures.ran (YieldsList-from_map _ numbered_of
    (YieldsList-at c.map.ensures.source (YieldsList-from_rest entries c.into_iter.ensures.into_iter_gives.0)) c.map.ensures.closure (λ x r q k. search rules)) in
    record {
      same = same;
      ordered = IfOk-weaker c.collect.result (λ l. l.items ≡ map numbered_of entries) (λ l. AreInOrder l.items) (λ l is. subst (λ (listed : List NumberedName). AreInOrder listed) (sym is) (collected_in_order entries c.into_iter.ensures.into_iter_gives.5)) same;
    }
