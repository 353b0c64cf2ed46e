use Rattle.std.specs.List.{zip}
use Rattle.cr_delta.proofs.Remains.{Remains}
use Rattle.cr_delta.proofs.Wholes.{keyed}
use Rattle.cr_delta.proofs.Zips.{left_of}
use Rattle.cr_delta.proofs.delta.add_rows.Given as goal

abbrev pub invariant-loop-pk : goal.invariant-loop-pk
invariant-loop-pk l = Remains (keyed l.def l.site l.kept) l.out.items (left_of l.pk-iterator) l.fn.out.items (zip l.keys l.wanted)
