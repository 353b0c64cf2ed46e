use Rattle.std.proofs.Common.{List, map, Ok, Err, refl}
use Rattle.cr_query.specs.Query.{Row}
use Rattle.cr_snapshot.specs.Seen.{name_of, rows_seen}
use Rattle.cr_session.proofs.Selecting.{says_select, select_finds}
use Rattle.cr_session.proofs.performing.answered.Goals as goal

pub returns-in-Ok-clause-says : goal.returns-in-Ok-clause-says
returns-in-Ok-clause-says g c = λ host st is.
    let tables : List (List Row) = map (λ j. rows_seen c.args.snapshot.now (name_of j)) c.args.query.now.joined in
    says_select _ c.args.params.now host st tables c.args.query.now is (Ok c.in-Ok.shown) _ c.in-Ok.ensures refl

pub returns-in-Err-clause-says : goal.returns-in-Err-clause-says
returns-in-Err-clause-says g c = λ host st is.
    let tables : List (List Row) = map (λ j. rows_seen c.args.snapshot.now (name_of j)) c.args.query.now.joined in
    says_select _ c.args.params.now host st tables c.args.query.now is (Err c.in-Err.refusal) _ c.in-Err.ensures refl

pub returns-in-Err-clause-finds : goal.returns-in-Err-clause-finds
returns-in-Err-clause-finds g c = λ host st is.
    let tables : List (List Row) = map (λ j. rows_seen c.args.snapshot.now (name_of j)) c.args.query.now.joined in
    select_finds _ c.args.params.now host st tables c.args.query.now is c.in-Err.refusal c.in-Err.ensures
