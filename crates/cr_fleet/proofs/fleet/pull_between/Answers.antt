use Rattle.std.proofs.Common.{rules, ◌<◌, ap, ◌∙◌, map, slice_set, slice_index_or}
use Rattle.cr_fleet.specs.declared.fleet.Named.{Named}
use Rattle.cr_fleet.proofs.Places.{pair, map_set}
use Rattle.cr_fleet.proofs.Stepping.{pair_at}
use Rattle.cr_fleet.proofs.TwoPlaces.{front_at, back_at, back_then_front, front_then_back}
use Rattle.cr_fleet.proofs.fleet.pull_between.Goals as goal

pub returns-then-at-from-clause-pulls : goal.returns-then-at-from-clause-pulls
returns-then-at-from-clause-pulls g c =
    let items = c.args.replicas.now in
    let parts = c.split_at_mut-front.ensures in
    let front = c.split_at_mut-front.result.0.now in
    let back = c.split_at_mut-front.result.1.now in
    let before : c.args.at < c.args.from = c.if-at-from.true in
    let within = c.requires.places.1 in
    let taker : Named g.row.C.Denot = slice_index_or front c.args.at c.index-front-at.result in
    let peer : Named g.row.C.Denot = slice_index_or back 0 c.index-back-0.result in
    let taker_new : Named g.row.C.Denot = record { name = taker.name; session = c.pull_from.new.taker } in
    let peer_new : Named g.row.C.Denot = record { name = peer.name; session = c.pull_from.new.peer } in
    record {
      taker = pair taker;
      peer = pair peer;
      taker_new = c.pull_from.new.taker;
      peer_new = c.pull_from.new.peer;
      taker_at = pair_at items c.args.at taker (front_at items front back c.args.at c.args.from parts.value parts.front_len before within c.index-front-at.result);
      peer_at = pair_at items c.args.from peer (back_at items front back c.args.at c.args.from parts.value parts.front_len before within c.index-back-0.result);
      left = ap (map pair) (back_then_front items front back c.args.at c.args.from parts.value parts.front_len before within taker_new peer_new)
          ∙ map_set pair (slice_set items c.args.from peer_new) c.args.at taker_new
          ∙ ap (λ xs. slice_set xs c.args.at (pair taker_new)) (map_set pair items c.args.from peer_new);
      pulled = c.pull_from.ensures.pulls;
    }

pub returns-else-at-from-clause-pulls : goal.returns-else-at-from-clause-pulls
returns-else-at-from-clause-pulls g c =
    let items = c.args.replicas.now in
    let parts = c.split_at_mut-front-else-at-from.ensures in
    let front = c.split_at_mut-front-else-at-from.result.0.now in
    let back = c.split_at_mut-front-else-at-from.result.1.now in
    let before : c.args.from < c.args.at = search rules in
    let within = c.requires.places.0 in
    let taker : Named g.row.C.Denot = slice_index_or back 0 c.index-back-0-else-at-from.result in
    let peer : Named g.row.C.Denot = slice_index_or front c.args.from c.index-front-from.result in
    let taker_new : Named g.row.C.Denot = record { name = taker.name; session = c.pull_from-else-at-from.new.taker } in
    let peer_new : Named g.row.C.Denot = record { name = peer.name; session = c.pull_from-else-at-from.new.peer } in
    record {
      taker = pair taker;
      peer = pair peer;
      taker_new = c.pull_from-else-at-from.new.taker;
      peer_new = c.pull_from-else-at-from.new.peer;
      taker_at = pair_at items c.args.at taker (back_at items front back c.args.from c.args.at parts.value parts.front_len before within c.index-back-0-else-at-from.result);
      peer_at = pair_at items c.args.from peer (front_at items front back c.args.from c.args.at parts.value parts.front_len before within c.index-front-from.result);
      left = ap (map pair) (front_then_back items front back c.args.from c.args.at parts.value parts.front_len before within peer_new taker_new)
          ∙ map_set pair (slice_set items c.args.from peer_new) c.args.at taker_new
          ∙ ap (λ xs. slice_set xs c.args.at (pair taker_new)) (map_set pair items c.args.from peer_new);
      pulled = c.pull_from-else-at-from.ensures.pulls;
    }
