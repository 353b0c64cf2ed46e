-- The kept changes stand by table, packed key and cid.
use Rattle.std.proofs.Common.{◌≡◌, List, [], ◌∷◌, refl, Less, Equal, Greater}
use Rattle.std.specs.List.{AllByRecursion}
use Rattle.std.specs.List.Sorted.{IsStrictlySortedBy}
use Rattle.std.proofs.lemmas.Cmp.{tied_itself}
use Rattle.cr_lattice.specs.declared.change.Change.{Change}
use Rattle.cr_lattice.specs.Change.{row_cmp, cid_cmp, change_cmp, seq_cmp}
use Rattle.cr_lattice.specs.ChangeOrder.{change_total, cid_exact}
use Rattle.cr_lattice.specs.Keep.{keep}
use Rattle.cr_lattice.proofs.KeepLaws.{In, In-head, In-tail, sorted-keep}
use Rattle.cr_lattice.proofs.SyncLemmas.{one_change}

less_seq : (s : List Change) (c d : Change) → In (keep s) c → In (keep s) d → change_cmp c d ≡ Less → seq_cmp c d ≡ Less
unfolding change_cmp seq_cmp
less_seq s c d in_c in_d less =
    elim (row_cmp c d) as (λ r. row_cmp c d ≡ r → seq_cmp c d ≡ Less) [
      | Less ↦ λ row. rw row refl
      | Equal ↦ λ row.
          elim (cid_cmp c.cid d.cid) as (λ r. cid_cmp c.cid d.cid ≡ r → seq_cmp c d ≡ Less) [
            | Less ↦ λ cid. rw (row, cid) refl
            | Equal ↦ λ cid. (
                let same : c ≡ d = one_change s c d in_c in_d row (cid_exact c.cid d.cid cid) in
                let tie : change_cmp c d ≡ Equal = rw same (tied_itself change_total d) in
                absurd cc)
            | Greater ↦ λ cid. (let above : change_cmp c d ≡ Greater = rw (row, cid) refl in absurd cc)
          ] refl
      | Greater ↦ λ row. (let above : change_cmp c d ≡ Greater = rw row refl in absurd cc)
    ] refl

below_seq : (s : List Change) (c : Change) (ds : List Change) → In (keep s) c → ((d : Change) → In ds d → In (keep s) d) → AllByRecursion (λ d. change_cmp c d ≡ Less) ds → AllByRecursion (λ d. seq_cmp c d ≡ Less) ds
below_seq s c [] in_c in_ds all = tt
below_seq s c (d ∷ ds) in_c in_ds all =
    (less_seq s c d in_c (in_ds d (In-head d ds)) all.0, below_seq s c ds in_c (λ e in_e. in_ds e (In-tail d ds e in_e)) all.1)

part_in_seq : (s ks : List Change) → ((c : Change) → In ks c → In (keep s) c) → IsStrictlySortedBy change_cmp ks → IsStrictlySortedBy seq_cmp ks
unfolding IsStrictlySortedBy
part_in_seq s [] in_ks sorted = tt
part_in_seq s (k ∷ ks) in_ks sorted =
    let in_rest : (c : Change) → In ks c → In (keep s) c = λ c e. in_ks c (In-tail k ks c e) in
    (below_seq s k ks (in_ks k (In-head k ks)) in_rest sorted.0, part_in_seq s ks in_rest sorted.1)

pub kept_in_seq : (s : List Change) → IsStrictlySortedBy seq_cmp (keep s)
kept_in_seq s = part_in_seq s (keep s) (λ c e. e) (sorted-keep s)
