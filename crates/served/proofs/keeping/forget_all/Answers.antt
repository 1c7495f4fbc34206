use Rattle.std.proofs.Common.{◌≤◌, arith, length, refl}
use Rattle.fuse.specs.Forgets.{forgets_of}
use Rattle.served.specs.Known.{known_of}
use Rattle.served.proofs.KeepingLaws.{few_of, fewer, forgets_all-none, forgets_all-one, none_left}
use Rattle.served.proofs.keeping.forget_all.Goals as goal

pub loop-init : goal.loop-init
loop-init g c =
    let few : length (forgets_of c.args.forgets) ≤ length c.args.forgets.bytes.now = few_of c.args.forgets.bytes.now in
    (λ new known came. came, omega (arith, few))

pub returns-in_default : goal.returns-in_default
returns-in_default g c =
    let known = known_of c.loop.memory in
    c.loop.invariant.0 c.loop.files known (forgets_all-none g.F.FileSystem c.loop.files known known (forgets_of c.loop.rest) c.in_default.ensures.none refl)

pub loop-preserved : goal.loop-preserved
loop-preserved g c = (
  λ new known came. c.loop.invariant.0 new known
      (forgets_all-one g.F.FileSystem c.loop.files c.forget.new.files new (known_of c.loop.memory) (known_of c.forget.new.memory) known (forgets_of c.loop.rest) (forgets_of c.in-Some.behind) c.in-Some.one
      c.in-Some.ensures.some c.forget.ensures came),
  fewer (forgets_of c.loop.rest) (forgets_of c.in-Some.behind) c.in-Some.one c.loop.counter (length c.args.forgets.bytes.now) c.in-Some.ensures.some c.loop.invariant.1,
)

pub returns : goal.returns
returns g c =
    let known = known_of c.loop.memory in
    c.loop.invariant.0 c.loop.files known
    (forgets_all-none g.F.FileSystem c.loop.files known known (forgets_of c.loop.rest)
    (none_left (forgets_of c.loop.rest) c.loop.counter (length c.args.forgets.bytes.now) c.loop-test.false c.loop.invariant.1) refl)
