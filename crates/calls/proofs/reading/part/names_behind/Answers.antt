use Rattle.std.proofs.Common.{◌≡◌, ◌<◌, ◌≤◌, ◌++◌, ◌∷◌, [], List, All, length, sym, subst, rules}
use Rattle.std.proofs.lemmas.Iterator.Adapters.{YieldsList-from_vec}
use Rattle.std.proofs.lemmas.Iterator.Consumers.{YieldsList-turn}
use Rattle.std.proofs.lemmas.List.Elements.{All-push}
use Rattle.std.specs.Prelude.{filter}
use Rattle.model.specs.Entries.{cookie_of}
use Rattle.dirs.specs.Listings.{listed_names}
use Rattle.calls.specs.Parts.{IsMarked, told_names}
use Rattle.calls.specs.declared.reading.part.ToldName.{ToldName}
use Rattle.calls.proofs.PartLaws.{one_more, passed_by, is_behind}
use Rattle.calls.proofs.reading.part.names_behind.Goals as goal

pub loop-numbered-preserved-in-Continue-1 : goal.loop-numbered-preserved-in-Continue-1
loop-numbered-preserved-in-Continue-1 c =
    let so_far = c.loop-numbered.invariant in
    let n = c.in-Some.numbered in
    let t : ToldName = record { cookie = c.cookie_of-cookie.result; numbered = n } in
    let turn = YieldsList-turn (YieldsList-from_vec {s = c.into_iter-numbered-iterator.result} c.args.names.items (search rules) (search rules)) c.loop-numbered.yielded c.loop-numbered.numbered-iterator c.loop-numbered.yielded_by c.next.result c.next.new.self n c.in-Some.is c.next.ensures.steps in
    let cookie : c.cookie_of-cookie.result ≡ cookie_of n.name.items = cc in
    record {
      behind = subst (λ (l : List ToldName). told_names l ≡ filter (is_behind c.args.after) (listed_names (c.loop-numbered.yielded ++ n ∷ []))) (sym c.in_ok-push.ensures.items) (one_more c.args.after c.loop-numbered.yielded t c.loop-numbered.behind.items so_far.behind (subst (λ k. c.args.after < k) cookie c.if-cookie-after.true));
      marked = subst (All (IsMarked c.args.names.items)) (sym c.in_ok-push.ensures.items) (All-push (IsMarked c.args.names.items) c.loop-numbered.behind.items t so_far.marked (record { cookie = cookie; named = (length c.loop-numbered.yielded, turn.0, sym turn.1) }));
    }

pub loop-numbered-preserved : goal.loop-numbered-preserved
loop-numbered-preserved c =
    let so_far = c.loop-numbered.invariant in
    let n = c.in-Some.numbered in
    let cookie : c.cookie_of-cookie.result ≡ cookie_of n.name.items = cc in
    record {
      behind = passed_by c.args.after c.loop-numbered.yielded n c.loop-numbered.behind.items so_far.behind (subst (λ k. k ≤ c.args.after) cookie c.if-cookie-after.false);
      marked = so_far.marked;
    }
