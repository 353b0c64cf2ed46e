use Rattle.std.proofs.Common.{◌≡◌, ◌++◌, false, map}
use Rattle.std.specs.Vec.Iter.{into_iter_items}
use Rattle.cr_delta.specs.Key.{key_of}
use Rattle.cr_lattice.specs.Sets.{set_of}
use Rattle.cr_query.specs.Writes.{repeats}
use Rattle.cr_wanted.proofs.Sets.{under, by}
use Rattle.cr_wanted.proofs.by_key.under_keys.Given as goal

abbrev pub invariant-loop-row : goal.invariant-loop-row
invariant-loop-row l = record {
  whole : l.yielded ++ into_iter_items l.row-iterator ≡ l.fn.rows.items;
  entries : l.under.entries ≡ map (under (key_of l.def)) (set_of (by (key_of l.def)) l.yielded);
  once : repeats (map (key_of l.def) l.yielded) ≡ false;
}
