use Rattle.ag_eval.proofs.Common
use Common.{◌≡◌, ◌∙◌, ◌+◌, ap, arith, false, length, refl, slice_get, subst, sym, true, insert, IsWell, is_item, Value, IsIndex}
use Common.{has_key, item_of, rising_table}
use Common.value
use Rattle.std.proofs.lemmas.Str.{is_utf8-from_IsUtf8}
use Rattle.ag_eval.proofs.Putting.{fits-inserted, inserts, item_with, within}
use Rattle.ag_eval.proofs.builtins.tables.put_pair.Goals as goal

pub index_of-index-requires : goal.index_of-index-requires
index_of-index-requires c = rw c.as_slice.ensures (rising_table _ c.args.table.pairs refl c.requires.table)

pub replaced-requires : goal.replaced-requires
replaced-requires c =
    let pairs = c.args.table.pairs in
    let x : Value = c.args.item in
    let i = c.index_of-index.result in
    let well : IsWell x = subst IsWell c.into_value.ensures.value c.into_value.ensures.well in
    let here : has_key c.args.key.now (slice_get pairs i) ≡ true =
    rw (← c.as_slice-2.ensures, ← c.has_at.ensures) c.if-has_at.true in
    record {
      table = c.requires.table;
      item = rw c.into_value.ensures.value (item_of x well c.requires.no_fault);
      within = within c.args.key.now pairs i here;
    }

pub fit-requires : goal.fit-requires
fit-requires c =
    let pairs = c.args.table.pairs in
    let key = c.args.key.now in
    let i = c.index_of-index.result in
    let x : Value = c.args.item in
    let index_is : IsIndex key pairs i = subst (λ ps. IsIndex key ps i) c.as_slice.ensures c.index_of-index.ensures.index in
    let none : has_key key (slice_get pairs i) ≡ false =
    ap (λ ps. has_key key (slice_get ps i)) (sym c.as_slice-2.ensures) ∙ sym c.has_at.ensures ∙ c.if-has_at.false in
    let well : IsWell x = subst IsWell c.into_value-2.ensures.value c.into_value-2.ensures.well in
    let growth_result : c.in_ok-pairs.pairs ≡ insert pairs i (key, x) =
    c.in_ok-pairs.ensures ∙ ap (λ v. insert pairs i (key, v)) c.into_value-2.ensures.value in
    let fits =
    fits-inserted pairs c.in_ok-pairs.pairs i key x
    (c.args.table.weight + 4 + length key + c.weight.result) c.max-depth.result growth_result c.requires.table well
    c.requires.short (omega arith) (omega arith) in
    record {
      item =
          ap (λ ps. is_item (value.Table ps)) (growth_result ∙ sym (inserts key x pairs i index_is none))
          ∙ item_with key x pairs c.requires.table (is_utf8-from_IsUtf8 key c.utf8.key) (item_of x well c.requires.no_fault);
      weighed = fits.0;
      depth_exact = fits.1;
    }
