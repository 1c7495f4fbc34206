use Rattle.std.proofs.Common.{◌≡◌, All}
use Rattle.std.specs.Prelude.{filter, nat_lt}
use Rattle.model.specs.Entries.{cookie_of}
use Rattle.dirs.specs.Listings.{listed_names}
use Rattle.calls.specs.Parts.{IsMarked, told_names}
use Rattle.calls.proofs.reading.part.names_behind.Given as goal

abbrev pub invariant-loop-numbered : goal.invariant-loop-numbered
invariant-loop-numbered l = record {
  behind : told_names l.behind.items ≡ filter (λ name. nat_lt l.after (cookie_of name)) (listed_names l.yielded);
  marked : All (IsMarked l.fn.names.items) l.behind.items;
}
