use Rattle.std.proofs.Common.{◌≡◌, ◌+◌, ◌^◌, ℕ, nat_lt, false, List, [], length, Some, Ok, Err, to_z, of_z, w64, subst, arith}
use Rattle.model.specs.declared.entries.Entry.{Entry}
use Rattle.model.specs.declared.reply.Reply.TheVariants as reply
use Rattle.served.proofs.FilesLaws.{passed}
use Rattle.served.proofs.ListingLaws.{lists_far, lists_nowhere, lists_on, lists_refused}
use Rattle.served.proofs.listing.list_names.Goals as goal
use Rattle.served.specs.Files.{IsOffset}
use Rattle.served.specs.Known.{known_of}
use Rattle.served.specs.Listing.{names_in, tells, whose_of}
use Rattle.served.specs.Turns.{Came, LeadsFrom, asks}

same : (n : ℕ) → n + 0 ≡ n
same n = omega arith

pub returns-in_default : goal.returns-in_default
returns-in_default g c =
    let a = c.args in
    let k = known_of a.memory.now in
    let whose = whose_of a.tree in
    lists_far g.F.FileSystem k whose a.number a.part a.files.now a.listing.items c.new.result
    (subst (λ (n : ℕ). nat_lt n (2 ^ 63) ≡ false) (same a.part.behind) c.in_default.ensures) c.new.ensures

pub returns-in-Ok-ask_names : goal.returns-in-Ok-ask_names
returns-in-Ok-ask_names g c =
    let a = c.args in
    let k = known_of a.memory.now in
    let whose = whose_of a.tree in
    let low : IsOffset a.part.behind (Some (to_z w64 (of_z w64 c.in-Some.after))) =
    passed a.part.behind c.in-Some.after (subst (λ (n : ℕ). IsOffset n (Some c.in-Some.after)) (same a.part.behind) c.in-Some.ensures) in
    let path = c.in-Ok.path.items in
    let leads : LeadsFrom a.number [] path = record { starts = c.in-Ok.ensures.starts; goes_on = c.in-Ok.ensures.goes_on; one_name = c.in-Ok.ensures.one_name } in
    let names = c.in-Ok-ask_names.names in
    let count : c.len-whole.result ≡ length a.listing.items = omega (arith, c.len-whole.ensures, a.listing.ok.0) in
    lists_on g.F.FileSystem k whose a.number a.part a.files.now c.ask_names.new.files c.tell_names.new.files a.listing.items path (to_z w64 (of_z w64 c.in-Some.after)) c.names_asked.result names c.len-whole.result
    c.tell_names.result low.0 leads low.1 c.names_asked.ensures
    (subst (λ (p : List ℕ). Came g.F.FileSystem a.files.now c.ask_names.new.files (asks reply.Entries (names_in whose p (to_z w64 (of_z w64 c.in-Some.after)) c.names_asked.result)) (Ok names)) c.deref.ensures.value
    c.in-Ok-ask_names.ensures)
    count
    (subst (λ (l : List Entry). Came g.F.FileSystem c.ask_names.new.files c.tell_names.new.files (tells k whose a.number a.part l c.len-whole.result a.listing.items) c.tell_names.result) c.as_slice-names.ensures c.tell_names.ensures)

pub returns-in-Err-ask_names : goal.returns-in-Err-ask_names
returns-in-Err-ask_names g c =
    let a = c.args in
    let k = known_of a.memory.now in
    let whose = whose_of a.tree in
    let low : IsOffset a.part.behind (Some (to_z w64 (of_z w64 c.in-Some.after))) =
    passed a.part.behind c.in-Some.after (subst (λ (n : ℕ). IsOffset n (Some c.in-Some.after)) (same a.part.behind) c.in-Some.ensures) in
    let path = c.in-Ok.path.items in
    let leads : LeadsFrom a.number [] path = record { starts = c.in-Ok.ensures.starts; goes_on = c.in-Ok.ensures.goes_on; one_name = c.in-Ok.ensures.one_name } in
    lists_refused g.F.FileSystem k whose a.number a.part a.files.now c.ask_names.new.files a.listing.items path (to_z w64 (of_z w64 c.in-Some.after)) c.names_asked.result c.in-Err-ask_names.errno
    low.0 leads low.1 c.names_asked.ensures
    (subst (λ (p : List ℕ). Came g.F.FileSystem a.files.now c.ask_names.new.files (asks reply.Entries (names_in whose p (to_z w64 (of_z w64 c.in-Some.after)) c.names_asked.result)) (Err c.in-Err-ask_names.errno)) c.deref.ensures.value
    c.in-Err-ask_names.ensures)

pub returns-in-Err : goal.returns-in-Err
returns-in-Err g c =
    let a = c.args in
    let k = known_of a.memory.now in
    let whose = whose_of a.tree in
    let low : IsOffset a.part.behind (Some (to_z w64 (of_z w64 c.in-Some.after))) =
    passed a.part.behind c.in-Some.after (subst (λ (n : ℕ). IsOffset n (Some c.in-Some.after)) (same a.part.behind) c.in-Some.ensures) in
    lists_nowhere g.F.FileSystem k whose a.number a.part a.files.now a.listing.items low.0
