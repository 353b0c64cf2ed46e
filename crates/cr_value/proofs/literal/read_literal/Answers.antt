use Rattle.std.proofs.Common.{◌≡◌, drop, Some, None, arith}
use Rattle.std.proofs.lemmas.List.{take_rest}
use Rattle.cr_value.specs.Reading.{literal_at}
use Rattle.cr_value.proofs.Places.{shorter, begins, begins_read}
use Rattle.cr_value.proofs.literal.read_literal.Goals as goal

pub overflow_sub-result : goal.overflow_sub-result
overflow_sub-result c =
    let text = c.args.text.now in
    let read : literal_at (drop c.args.at text) ≡ Some (c.in-Ok.value, c.in-Ok.rest.now) = rw (c.as_bytes-bytes.ensures.value, take_rest text c.args.at) at c.in-Ok.ensures in
    rw c.as_bytes-bytes.ensures.value (shorter text c.args.at c.in-Ok.value c.in-Ok.rest.now read)

pub returns-in-Ok-clause-some : goal.returns-in-Ok-clause-some
returns-in-Ok-clause-some c =
    let text = c.args.text.now in
    let read : literal_at (drop c.args.at text) ≡ Some (c.in-Ok.value, c.in-Ok.rest.now) = rw (c.as_bytes-bytes.ensures.value, take_rest text c.args.at) at c.in-Ok.ensures in
    rw c.as_bytes-bytes.ensures.value (begins text c.args.at c.in-Ok.value c.in-Ok.rest.now (omega arith) read)

pub returns-in-Err-Malformed-clause-none : goal.returns-in-Err-Malformed-clause-none
returns-in-Err-Malformed-clause-none c = λ v end b.
    let text = c.args.text.now in
    let read : literal_at (drop c.args.at text) ≡ None = rw (c.as_bytes-bytes.ensures.value, take_rest text c.args.at, c.in-Err-Malformed.field-0-is) at c.in-Err-Malformed.ensures in
    let found = begins_read text c.args.at v end b in
    cc
