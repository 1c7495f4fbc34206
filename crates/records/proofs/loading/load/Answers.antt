use Rattle.records.proofs.loading.load.Goals as goal

pub returns : goal.returns
returns g c =
    let load = c.load.ensures in
    record { looks = load.looks; stays = load.loads.known; keeps = load.loads.room; known = load.known; damaged = load.damaged }
