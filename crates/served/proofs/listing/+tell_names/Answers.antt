use Rattle.std.proofs.Common.{◌≡◌, ◌++◌, if◌then◌else◌, Bool, List, ℕ, length, take, ap, sym, subst, ◌∙◌, arith}
use Rattle.fuse.specs.Directory.{listed_of}
use Rattle.served.proofs.ListingLaws.{tells_full, tells_none, tells_on, tells_refused, tells_unkept}
use Rattle.served.proofs.listing.+tell_names.Goals as goal
use Rattle.served.specs.Known.{known_of}
use Rattle.served.specs.Listing.{ends, shares_cookie, spelled, whose_of}

pub returns-in_default : goal.returns-in_default
returns-in_default g t c =
    let a = c.args in
    let k = known_of a.memory.now in
    let whose = whose_of a.tree in
    tells_none g.F.FileSystem k whose a.number a.part a.files.now a.names.now a.whole a.listing.items c.new.result c.in_default.ensures.cases c.new.ensures

pub returns-in-Ok-true : goal.returns-in-Ok-true
returns-in-Ok-true g t c =
    let a = c.args in
    let k = known_of a.memory.now in
    let whose = whose_of a.tree in
    let x = c.in-Some.name.now in
    let rest = c.in-Some.behind.now in
    let cases = c.in-Some.ensures.cases in
    let name = listed_of c.listed_of.result in
    let now = c.append.new.listing.items in
    let so : now ≡ a.listing.items ++ spelled a.part c.in-Ok.told name =
    subst (λ (b : Bool). now ≡ (if b then a.listing.items ++ spelled a.part c.in-Ok.told name else a.listing.items)) c.in-Ok-true.field-0-test c.in-Ok-true.ensures.ok in
    let count : c.len.result ≡ length now = omega (arith, c.len.ensures, c.append.new.listing.ok.0) in
    tells_on g.F.FileSystem k whose a.number a.part a.files.now c.told_of.new.files c.tell_names.new.files a.names.now x rest a.whole a.listing.items c.in-Ok.told name now c.whole_behind-now.result c.tell_names.result
    cases.0 c.in-Ok.ensures c.listed_of.ensures (sym c.in-Ok-true.ensures.fits ∙ c.in-Ok-true.field-0-test) so
    (c.whole_behind-now.ensures ∙ ap (λ (n : ℕ). if shares_cookie x rest then a.whole else n) count) c.tell_names.ensures

pub returns-in-Ok-false : goal.returns-in-Ok-false
returns-in-Ok-false g t c =
    let a = c.args in
    let k = known_of a.memory.now in
    let whose = whose_of a.tree in
    let x = c.in-Some.name.now in
    let rest = c.in-Some.behind.now in
    let cases = c.in-Some.ensures.cases in
    let name = listed_of c.listed_of.result in
    let now = c.append.new.listing.items in
    let so : now ≡ a.listing.items =
    subst (λ (b : Bool). now ≡ (if b then a.listing.items ++ spelled a.part c.in-Ok.told name else a.listing.items)) c.in-Ok-false.field-0-test c.in-Ok-false.ensures.ok in
    tells_full g.F.FileSystem k whose a.number a.part a.files.now c.told_of.new.files a.names.now x rest a.whole a.listing.items c.in-Ok.told name c.ends.result
    cases.0 c.in-Ok.ensures c.listed_of.ensures (sym c.in-Ok-false.ensures.fits ∙ c.in-Ok-false.field-0-test)
    (c.ends.ensures ∙ ap (λ (l : List ℕ). ends (take a.whole l)) so)

pub returns-in-Err-append : goal.returns-in-Err-append
returns-in-Err-append g t c =
    let a = c.args in
    let k = known_of a.memory.now in
    let whose = whose_of a.tree in
    let x = c.in-Some.name.now in
    let rest = c.in-Some.behind.now in
    let cases = c.in-Some.ensures.cases in
    tells_unkept g.F.FileSystem k whose a.number a.part a.files.now c.told_of.new.files a.names.now x rest a.whole a.listing.items c.in-Ok.told cases.0 c.in-Ok.ensures

pub returns-in-Err : goal.returns-in-Err
returns-in-Err g t c =
    let a = c.args in
    let k = known_of a.memory.now in
    let whose = whose_of a.tree in
    let x = c.in-Some.name.now in
    let rest = c.in-Some.behind.now in
    let cases = c.in-Some.ensures.cases in
    tells_refused g.F.FileSystem k whose a.number a.part a.files.now c.told_of.new.files a.names.now x rest a.whole a.listing.items c.in-Err.errno cases.0 c.in-Err.ensures
