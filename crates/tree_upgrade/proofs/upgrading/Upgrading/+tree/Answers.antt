use Rattle.std.proofs.Common.{rules, Ok, Err, get_or, length-append, ◌≡◌, ◌+◌, ◌-◌, ◌≤◌, ℕ, suc, List, [], ◌∷◌, ◌++◌, All, drop}
use Rattle.std.proofs.Common.{length, reverse, take, take_at, refl, sym, ap, subst, ◌∙◌, arith}
use Rattle.std.proofs.lemmas.List.{drop_all, length-reverse}
use Rattle.std.proofs.lemmas.List.Elements.{All-append, All-nil}
use Rattle.std.proofs.lemmas.Option.{slice_get_within}
use Rattle.std.proofs.lemmas.Result.{err_from_is_err_and}
use Rattle.ag_value.specs.declared.value.Value.{Value}
use Rattle.ag_value.specs.Well.{IsWell}
use Rattle.ag_grammar.specs.declared.grammar.Item.{Item}
use Rattle.ag_grammar.specs.declared.grammar.Item.TheVariants as item
use Rattle.ag_grammar.specs.declared.grammar.Production.{Production}
use Rattle.ag_grammar.specs.grammars.AttributeGrammar.{Grammar, IsProduction, stored_items}
use Rattle.backreader.specs.BackState.{Progress}
use Rattle.tree_upgrade.specs.upgrading.Upgrading.{Converted, HasTaken, IsOf, IsUnconverted, text_list}
use Rattle.treefile.specs.records.TreeFile.{body_of, frame}
use Rattle.treefile.specs.declared.body.Kind.TheVariants.{Node, Token}
use Rattle.tree_upgrade.proofs.upgrades.Converted.{converted_supposed, next_converted, next_refused, node_converted, node_of}
use Rattle.tree_upgrade.proofs.upgrades.Converted.{none_converted, one_text, text_is_well, token_converted}
use Rattle.treefile.proofs.framing.Backward.{All-reverse}
use Rattle.treefile.proofs.framing.Beginning.{added, none_added}
use Rattle.pass_rows.specs.declared.run_fault.RunFault.{RunFault}
use Rattle.pass_rows.proofs.Recorded.{production_is}
use Rattle.tree_upgrade.proofs.upgrading.Upgrading.+tree.Goals as goal

-- An item that is not a child.
pub returns-then-not-is_stored_child-clause-converted : goal.returns-then-not-is_stored_child-clause-converted
returns-then-not-is_stored_child-clause-converted g t c honest =
    none_converted c.args.grammar.now c.requires.accepted (g.D.Device.content c.args.from.now) []
    (c.args.subtree.item ∷ []) c.args.subtree.level c.args.self.now.back.progress (g.E.Device.is_honest c.args.to.now)
    (g.E.Device.content c.args.to.now) (c.if-not-is_stored_child.ensures [])

pub record-requires-clause-place : goal.record-requires-clause-place
record-requires-clause-place g t c = c.if-not-is_stored_child.ensures []

-- A token.
pub returns-in-Token-clause-converted : goal.returns-in-Token-clause-converted
returns-in-Token-clause-converted g t c honest =
    let h =
    subst
    (HasTaken c.args.grammar.now c.args.subtree.item c.args.subtree.level (g.D.Device.is_honest c.record.new.from)
    (g.D.Device.content c.args.from.now) c.args.self.now.back c.record.new.self.back) c.in-Token.is
    c.in_ok-production.ensures.taken in
    token_converted c.args.grammar.now c.requires.accepted
    (g.D.Device.content c.args.from.now) c.args.subtree.item c.args.subtree.level c.in-Token.class c.in-Token.text
    c.args.self.now.back.progress c.record.new.self.back.progress (g.E.Device.is_honest c.put_record.new.to)
    (g.E.Device.content c.args.to.now) (g.E.Device.content c.put_record.new.to)
    (c.if-not-is_stored_child.ensures []) h.is h.deep h.few (h.found honest) (ap (λ (p : Progress). p.at) h.progress)
    (ap (λ (p : Progress). p.records) h.progress)
    (λ h. c.in_ok-put_record-in-Token.ensures.put.there h
    ∙ ap (λ vs. g.E.Device.content c.args.to.now ++ frame (body_of Token c.in-Token.class vs))
    c.from_ref.ensures.value)

-- A node.
pub bounds-productions-production : goal.bounds-productions-production
bounds-productions-production g t c =
    let node =
    node_of c.args.grammar.now c.args.subtree.item c.in-Node.production
    (subst (IsOf c.args.grammar.now c.args.subtree.item) c.in-Node.is c.in_ok-production.ensures.taken.is) in
    let within = slice_get_within c.args.grammar.now.productions c.in-Node.production node.0 node.1 in
    omega (arith, within, ap (λ (qs : List Production). length qs) c.productions.ensures.lent)

pub loop-at-init : goal.loop-at-init
loop-at-init g t c =
    let h = c.in_ok-production.ensures.taken in
    let items = c.as_slice-items.result.now in
    let records = ap (λ (p : Progress). p.records) h.progress in
    let many : length items ≤ length items = omega arith in
    record {
      content = λ honest. c.in_ok-production.ensures.content honest;
      from_persists = search rules;
      to_persists = search rules;
      since = λ h. h;
      ready = search rules;
      added = λ h. none_added RunFault (g.E.Device.content c.args.to.now) (Ok tt);
      balanced = omega (arith, records, ap (λ w. w.written) c.in_ok-production.ensures.writer);
      well = subst (All IsWell) (sym c.new-texts.ensures.items) (All-nil IsWell);
      few = omega (arith, ap length c.new-texts.ensures.items);
      converted = λ honest.
          subst
          (λ texts. Converted c.args.grammar.now (g.D.Device.content c.args.from.now) (take (length items) items)
          (drop (length items) items) (suc c.args.subtree.level) c.record.new.self.back.progress c.record.new.self.back.progress
          (g.E.Device.is_honest c.args.to.now) (g.E.Device.content c.args.to.now)
          (g.E.Device.content c.args.to.now) texts) (sym c.new-texts.ensures.items)
          (none_converted c.args.grammar.now c.requires.accepted (g.D.Device.content c.args.from.now) (take (length items) items)
          (drop (length items) items) (suc c.args.subtree.level) c.record.new.self.back.progress
          (g.E.Device.is_honest c.args.to.now) (g.E.Device.content c.args.to.now)
          (ap stored_items (drop_all (length items) items many)));
    }

-- The items of a node are those of its production.
items_are : (g : Grammar) (p : ℕ) (lent : List Production) (d : Production) (items : List Item) → lent ≡ g.productions
    → items ≡ (get_or lent p d).items → (q : Production) → IsProduction g p q → items ≡ q.items
items_are g p lent d items same all q there =
    all ∙ ap (λ (q : Production). q.items) (production_is g.productions lent p q (get_or lent p d) d same refl there)

-- A child that fails.
pub returns-in_err-text-clause-refused : goal.returns-in_err-text-clause-refused
returns-in_err-text-clause-refused g t c =
    let p = err_from_is_err_and c.from_residual-in_err-text.result c.from_residual-in_err-text.ensures.1 in
    let so_far = c.loop-at.invariant in
    let grammar = c.args.grammar.now in
    let content = g.D.Device.content c.args.from.now in
    let items = c.as_slice-items.result.now in
    let now = c.loop-at.self.back.progress in
    let f = c.in_err-text.field-0.0 in
    let level : c.args.subtree.level + 1 ≡ suc c.args.subtree.level = omega arith in
    let h =
    subst
    (HasTaken grammar c.args.subtree.item c.args.subtree.level
    (g.D.Device.is_honest c.record.new.from) content c.args.self.now.back c.record.new.self.back) c.in-Node.is
    c.in_ok-production.ensures.taken in
    rw (p.1, p.2) (λ honest.
    let is = c.in_err-text.ensures.devices.first.honest honest in
    let refused =
    subst
    (λ (bytes : List ℕ). IsUnconverted grammar bytes (get_or items (c.loop-at.at - 1) (item.Symbol 0) ∷ [])
    (c.args.subtree.level + 1) now f) (so_far.content is) (c.in_err-text.ensures.refused honest) in
    next_refused grammar c.requires.accepted content c.args.subtree.item c.in-Node.production items c.loop-at.at
    c.args.subtree.level (item.Symbol 0) c.args.self.now.back.progress c.record.new.self.back.progress now h.is
    (g.E.Device.is_honest c.loop-at.to)
    (g.E.Device.content c.args.to.now) (g.E.Device.content c.loop-at.to) c.loop-at.texts.items f
    (c.if-not-is_stored_child.ensures []) h.deep h.few (h.found (so_far.since is)) (ap (λ (p : Progress). p.at) h.progress)
    (ap (λ (p : Progress). p.records) h.progress)
    (items_are grammar c.in-Node.production c.productions.result.now c.index-productions-production.result items
    c.productions.ensures.lent c.as_slice-items.ensures)
    c.loop-at-test.true c.loop-at.auto.at (so_far.converted is)
    (subst (λ n. IsUnconverted grammar content (get_or items (c.loop-at.at - 1) (item.Symbol 0) ∷ []) n now f) level refused))

pub loop-at-preserved : goal.loop-at-preserved
loop-at-preserved g t c =
    let so_far = c.loop-at.invariant in
    let grammar = c.args.grammar.now in
    let content = g.D.Device.content c.args.from.now in
    let items = c.as_slice-items.result.now in
    let text = c.in_ok-text.text in
    let child = get_or items (c.loop-at.at - 1) (item.Symbol 0) in
    let between = c.loop-at.self.back.progress in
    let now = c.tree.new.self.back.progress in
    let out_between = g.E.Device.content c.loop-at.to in
    let out_now = g.E.Device.content c.tree.new.to in
    let more : c.add_text.new.texts.items ≡ c.loop-at.texts.items ++ text_list text = c.in_ok-add_text.ensures in
    let level : c.args.subtree.level + 1 ≡ suc c.args.subtree.level = omega arith in
    record {
      content = λ h. c.in_ok-text.ensures.content h ∙ so_far.content (c.in_ok-text.ensures.devices.first.honest h);
      from_persists = search rules;
      to_persists = search rules;
      since = λ h. so_far.since (c.in_ok-text.ensures.devices.first.honest h);
      ready = search rules;
      added =
          λ h. added RunFault (g.E.Device.content c.args.to.now) out_between out_now (Ok tt)
          (so_far.added (c.in_ok-text.ensures.devices.second.honest h)) (c.in_ok-text.ensures.added h);
      balanced = search rules;
      well =
          subst (All IsWell) (sym more)
          (All-append IsWell c.loop-at.texts.items (text_list text) so_far.well
          (text_is_well text c.in_ok-text.ensures.well));
      few =
          omega (
            arith,
            ap (λ vs. length vs) more,
            length-append c.loop-at.texts.items (text_list text),
            one_text text,
            so_far.few,
            c.loop-at-test.true,
          );
      converted = λ honest.
          let is = c.in_ok-text.ensures.devices.first.honest honest in
          let to = g.E.Device.is_honest c.tree.new.to in
          let next =
          subst
          (λ (bytes : List ℕ). Converted grammar bytes [] (child ∷ [])
          (c.args.subtree.level + 1) between now to out_between out_now (text_list text)) (so_far.content is)
          (c.in_ok-text.ensures.converted honest) in
          next_converted grammar c.requires.accepted content items c.loop-at.at (suc c.args.subtree.level)
          (item.Symbol 0) c.record.new.self.back.progress between now to
          (g.E.Device.content c.args.to.now) out_between out_now c.loop-at.texts.items
          (text_list text) c.add_text.new.texts.items
          c.loop-at-test.true c.loop-at.auto.at
          (converted_supposed grammar c.requires.accepted content _ _ _ _ between to (g.E.Device.is_honest c.loop-at.to)
          (g.E.Device.content c.args.to.now) out_between c.loop-at.texts.items c.in_ok-text.ensures.devices.second.honest
          (so_far.converted is))
          (subst
          (λ n. Converted grammar content [] (child ∷ []) n between now to out_between out_now
          (text_list text)) level next) more;
    }

-- The texts, reversed.
turned : (xs : List Value) (turned lent : List Value) (n : ℕ) → turned ≡ reverse xs → n ≡ length xs
    → lent ≡ take n (turned ++ drop (length turned) xs) → lent ≡ reverse xs
turned xs ys lent n is long same = same ∙ take_at ys (drop (length ys) xs) n (ap length is ∙ length-reverse xs ∙ sym long) ∙ is

pub put_record-requires-2-clause-few : goal.put_record-requires-2-clause-few
put_record-requires-2-clause-few g t c =
    let texts = c.loop-at.texts in
    let same =
    turned texts.items c.reverse.new.self c.as_slice.result.now texts.len
    (c.reverse.ensures.after ∙ ap reverse c.as_mut_slice.ensures.value)
    (omega (arith, texts.ok.0)) c.as_slice.ensures.value in
    let node =
    node_of c.args.grammar.now c.args.subtree.item c.in-Node.production
    (subst (IsOf c.args.grammar.now c.args.subtree.item) c.in-Node.is c.in_ok-production.ensures.taken.is) in
    let items =
    items_are c.args.grammar.now c.in-Node.production c.productions.result.now c.index-productions-production.result
    c.as_slice-items.result.now c.productions.ensures.lent c.as_slice-items.ensures node.0 node.1 in
    let most = c.requires.accepted.limits.item_count c.in-Node.production node.0 node.1 in
    omega (
      arith,
      ap (λ vs. length vs) same,
      length-reverse texts.items,
      c.loop-at.invariant.few,
      ap (λ xs. length xs) items,
      most,
    )

pub put_record-requires-2-clause-well : goal.put_record-requires-2-clause-well
put_record-requires-2-clause-well g t c =
    let texts = c.loop-at.texts in
    let same =
    turned texts.items c.reverse.new.self c.as_slice.result.now texts.len
    (c.reverse.ensures.after ∙ ap reverse c.as_mut_slice.ensures.value)
    (omega (arith, texts.ok.0)) c.as_slice.ensures.value in
    subst (All IsWell) (sym same) (All-reverse IsWell texts.items c.loop-at.invariant.well)

-- The whole tree was converted.
pub returns-clause-converted : goal.returns-clause-converted
returns-clause-converted g t c honest =
    let so_far = c.loop-at.invariant in
    let grammar = c.args.grammar.now in
    let content = g.D.Device.content c.args.from.now in
    let items = c.as_slice-items.result.now in
    let texts = c.loop-at.texts in
    let to = g.E.Device.is_honest c.put_record-2.new.to in
    let out_between = g.E.Device.content c.loop-at.to in
    let out_now = g.E.Device.content c.put_record-2.new.to in
    let h =
    subst
    (HasTaken grammar c.args.subtree.item c.args.subtree.level
    (g.D.Device.is_honest c.record.new.from) content c.args.self.now.back c.record.new.self.back) c.in-Node.is
    c.in_ok-production.ensures.taken in
    let same =
    turned texts.items c.reverse.new.self c.as_slice.result.now texts.len
    (c.reverse.ensures.after ∙ ap reverse c.as_mut_slice.ensures.value)
    (omega (arith, texts.ok.0)) c.as_slice.ensures.value in
    let none : c.loop-at.at ≡ 0 = omega (arith, c.loop-at-test.false) in
    let whole =
    subst
    (λ n. Converted grammar content (take n items) (drop n items)
    (suc c.args.subtree.level) c.record.new.self.back.progress c.loop-at.self.back.progress to
    (g.E.Device.content c.args.to.now) out_between texts.items) none
    (converted_supposed grammar c.requires.accepted content _ _ _ _ c.loop-at.self.back.progress to
    (g.E.Device.is_honest c.loop-at.to)
    (g.E.Device.content c.args.to.now) out_between texts.items c.in_ok-put_record.ensures.persists.honest
    (so_far.converted honest)) in
    node_converted grammar c.requires.accepted content c.args.subtree.item c.args.subtree.level c.in-Node.production
    c.args.self.now.back.progress c.record.new.self.back.progress c.loop-at.self.back.progress to
    (g.E.Device.content c.args.to.now) out_between out_now texts.items
    (c.if-not-is_stored_child.ensures []) h.is h.deep h.few (h.found (so_far.since honest))
    (ap (λ (p : Progress). p.at) h.progress) (ap (λ (p : Progress). p.records) h.progress) items
    (items_are grammar c.in-Node.production c.productions.result.now c.index-productions-production.result items
    c.productions.ensures.lent c.as_slice-items.ensures)
    whole (λ is. c.in_ok-put_record.ensures.put.there is
    ∙ ap (λ vs. out_between ++ frame (body_of Node c.in-Node.production vs)) same)

-- ---- the frames written, for any first device

pub returns-then-not-is_stored_child-clause-added : goal.returns-then-not-is_stored_child-clause-added
returns-then-not-is_stored_child-clause-added g t c = λ h. none_added RunFault (g.E.Device.content c.args.to.now) (Ok tt)

pub returns-in_err-production-clause-left : goal.returns-in_err-production-clause-left
returns-in_err-production-clause-left g t c =
    let p = err_from_is_err_and c.from_residual.result c.from_residual.ensures.1 in
    rw p.1 (λ h. none_added RunFault (g.E.Device.content c.args.to.now) (Err p.0))

pub returns-in_err-text-clause-left : goal.returns-in_err-text-clause-left
returns-in_err-text-clause-left g t c =
    let p = err_from_is_err_and c.from_residual-in_err-text.result c.from_residual-in_err-text.ensures.1 in
    rw p.1
    (λ h. added RunFault (g.E.Device.content c.args.to.now) (g.E.Device.content c.loop-at.to)
    (g.E.Device.content c.tree.new.to) (Err p.0)
    (c.loop-at.invariant.added (c.in_err-text.ensures.devices.second.honest h)) (c.in_err-text.ensures.left h))

pub returns-in_err-add_text-clause-left : goal.returns-in_err-add_text-clause-left
returns-in_err-add_text-clause-left g t c =
    let p = err_from_is_err_and c.from_residual-in_err-add_text.result c.from_residual-in_err-add_text.ensures.1 in
    let old = g.E.Device.content c.args.to.now in
    let now = g.E.Device.content c.tree.new.to in
    rw p.1 (λ h.
    let first =
    added RunFault old (g.E.Device.content c.loop-at.to) now (Ok tt)
    (c.loop-at.invariant.added (c.in_ok-text.ensures.devices.second.honest h)) (c.in_ok-text.ensures.added h) in
    added RunFault old now now (Err p.0) first (none_added RunFault now (Err p.0)))

pub returns-in_err-put_record-clause-left : goal.returns-in_err-put_record-clause-left
returns-in_err-put_record-clause-left g t c =
    let p = err_from_is_err_and c.from_residual-in_err-put_record.result c.from_residual-in_err-put_record.ensures.1 in
    rw p.1
    (λ h. added RunFault (g.E.Device.content c.args.to.now) (g.E.Device.content c.loop-at.to)
    (g.E.Device.content c.put_record-2.new.to) (Err p.0)
    (c.loop-at.invariant.added (c.in_err-put_record.ensures.persists.honest h)) (c.in_err-put_record.ensures.left h))

pub returns-clause-added : goal.returns-clause-added
returns-clause-added g t c = λ h.
    added RunFault (g.E.Device.content c.args.to.now) (g.E.Device.content c.loop-at.to) (g.E.Device.content c.put_record-2.new.to)
    (Ok tt) (c.loop-at.invariant.added (c.in_ok-put_record.ensures.persists.honest h)) (c.in_ok-put_record.ensures.added h)
