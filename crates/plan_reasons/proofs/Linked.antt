-- Links of strikes: each good strike (`IsGood` of `passassign`) has one, and the links of a chain are in the chain's order.
use Rattle.std.proofs.Common.{ℕ, zero, suc, ◌≡◌, ◌≤◌, ◌+◌, ◌++◌, inl, inr, List, [], ◌∷◌, Option, Some, None, slice_get, length}
use Rattle.std.proofs.Common.{refl, ap, sym, ◌∙◌, subst, length-append, arith}
use Rattle.ag_grammar.specs.Lists.{AreRelated, Each}
use Rattle.ag_grammar.specs.declared.direction.Direction.{Direction}
use Rattle.ag_grammar.specs.declared.grammar.Item.TheVariants as item
use Rattle.ag_grammar.specs.declared.grammar.Item.{Item}
use Rattle.ag_grammar.specs.declared.grammar.Production.{Production}
use Rattle.ag_grammar.specs.declared.grammar.Rule.{Rule}
use Rattle.ag_grammar.specs.declared.grammar.Target.{Target}
use Rattle.ag_grammar.specs.grammars.AttributeGrammar.{Grammar, item_at}
use Rattle.passassign.proofs.slots.Lists.{get_push_cases}
use Rattle.passassign.specs.Certificate.{Attributes, IsSameOrLater, IsGoodWhere, IsOneOf, IsReasonWhere, IsStruckBy}
use Rattle.passassign.specs.Chains.{first_only, IsChain, IsChainOf, Names}
use Rattle.passassign.specs.declared.stuck.Strike.{Strike}
use Rattle.plan_reasons.specs.Links.{AppendsLink, AreChainLinks, IsGeometry, IsLinkAt, IsLinkOf, IsLinkOrNone, NamesAttribute}
use Rattle.plan_reasons.specs.declared.links.Geometry.TheVariants as geometry
use Rattle.plan_reasons.specs.declared.links.Link.{Link}

-- the link of a strike, found by the production, the rule and the argument that the strike names
pub link_of_named : (g : Grammar) (x : Strike) (q : Production) (u : Rule) (o : Target) (r : Option Link) → Names g x q u o
    → IsLinkAt q u o x r → IsLinkOrNone g x r
link_of_named g x q u o (Some l) names (strike, target, argument, symbol, attr) = record {
  production = q;
  rule = u;
  named = subst (Names g x q u) (sym argument) names;
  strike = strike;
  target = target;
  symbol = subst (λ (t : Target). item_at q t.place ≡ Some (item.Symbol l.used.0)) (sym argument) symbol;
  attr = ap (λ (t : Target). t.attr) argument ∙ attr;
}
link_of_named g x q u o None names none = λ n.
    let one : Some q ≡ Some n.production = sym names.is_production ∙ n.named.is_production in
    let first : q ≡ n.production = cc in
    let two : Some u ≡ Some n.rule =
    sym (subst (λ (p : Production). slice_get p.rules x.rule ≡ Some u) first names.is_rule) ∙ n.named.is_rule in
    let second : u ≡ n.rule = cc in
    let three : Some o ≡ Some n.argument =
    sym (subst (λ (r : Rule). slice_get r.args x.arg ≡ Some o) second names.is_argument) ∙ n.named.is_argument in
    let third : o ≡ n.argument = cc in
    none n.symbol
    (subst (λ (p : Production). item_at p o.place ≡ Some (item.Symbol n.symbol)) (sym first)
    (subst (λ (t : Target). item_at n.production t.place ≡ Some (item.Symbol n.symbol)) (sym third) n.item))

-- these are the links of the first n strikes of the list xs
pub record AreLinksUpTo (g : Grammar) (xs : List Strike) (n : ℕ) (links : List Link) : Type 0 where
  pub count : length links ≡ n
  pub each : (k : ℕ) (x : Strike) (l : Link) → slice_get xs k ≡ Some x → slice_get links k ≡ Some l → IsLinkOf g x l

pub links_more : (g : Grammar) (xs : List Strike) (n : ℕ) (x : Strike) (old new : List Link) → slice_get xs n ≡ Some x
    → (Each (NamesAttribute g) xs → AreLinksUpTo g xs n old) → AppendsLink g x old new → Each (NamesAttribute g) xs
    → AreLinksUpTo g xs (n + 1) new
links_more g xs n x old new at before put all =
    let so_far = before all in
    let one = put (all n x at) in
    let l = one.0 in
    let is : new ≡ old ++ l ∷ [] = one.2 in
    record {
      count = ap length is ∙ length-append old (l ∷ []) ∙ ap (λ k. k + 1) so_far.count;
      each = λ k y m e f. elim (get_push_cases old l m k (subst (λ (zs : List Link). slice_get zs k ≡ Some m) is f)) [
        | inl there ↦ so_far.each k y m e there
        | inr here ↦ (
            let both : Some x ≡ Some y = sym at ∙ ap (slice_get xs) (sym (here.0 ∙ so_far.count)) ∙ e in
            let same : x ≡ y = cc in
            subst (IsLinkOf g y) here.1 (subst (λ z. IsLinkOf g z l) same one.1))
      ];
    }

pub links_whole : (g : Grammar) (xs : List Strike) (n : ℕ) (links : List Link) → length xs ≤ n → n ≤ length xs
    → AreLinksUpTo g xs n links → AreRelated (IsLinkOf g) xs links
links_whole g xs n links most least h = record {
  equally_long = let count = h.count in omega (arith, count, most, least);
  each = h.each;
}

-- a good strike names an argument that is an attribute of a symbol
good_names : (g : Grammar) (d : Direction) (candidate struck : Attributes) (x : Strike) → IsGoodWhere g d candidate struck x
    → NamesAttribute g x
good_names g d candidate struck x good = go (item_at good.production good.argument.place) refl good.reason
  where
    go : (y : Option Item) → item_at good.production good.argument.place ≡ y
        → IsReasonWhere d candidate struck good.production good.rule.target.place good.argument → NamesAttribute g x
    go None e (inl i) = absurd (subst (λ y. IsOneOf struck y good.argument.attr) e i)
    go None e (inr (ahead, i)) = absurd (subst (λ y. IsOneOf candidate y good.argument.attr) e i)
    go (Some (item.Terminal t)) e (inl i) = absurd (subst (λ y. IsOneOf struck y good.argument.attr) e i)
    go (Some (item.Terminal t)) e (inr (ahead, i)) = absurd (subst (λ y. IsOneOf candidate y good.argument.attr) e i)
    go (Some (item.Symbol s)) e reason = record {
      production = good.production;
      rule = good.rule;
      argument = good.argument;
      symbol = s;
      named = record { is_production = good.is_production; is_rule = good.is_rule; is_argument = good.is_argument };
      item = e;
    }

chain_names : (g : Grammar) (d : Direction) (candidate : Attributes) (xs : List Strike) → IsChain g d candidate xs
    → Each (NamesAttribute g) xs
chain_names g d candidate [] chain i x e = absurd (let bad : ⊥ = cc in bad)
chain_names g d candidate (y ∷ ys) (is, good, more) zero x e =
    let same : y ≡ x = cc in
    subst (NamesAttribute g) same (good_names g d candidate (IsStruckBy (first_only ys)) y good)
chain_names g d candidate (y ∷ ys) (is, good, more) (suc i) x e = chain_names g d candidate ys more i x e

pub chain_links : (g : Grammar) (d : Direction) (candidate : Attributes) (s a : ℕ) (chain : List Strike) (links : List Link)
    → IsChainOf g d candidate s a chain → (Each (NamesAttribute g) chain → AreRelated (IsLinkOf g) chain links)
    → AreChainLinks g d candidate s a links
chain_links g d candidate s a chain links is related =
    record { chain = chain; is_chain = is; are_links = related (chain_names g d candidate chain is.chain) }

-- if an argument is at the target's child or at a later child, and not at the target's place, it is at a later child
pub later_ahead : (d : Direction) (j i : ℕ) → IsSameOrLater d j i → (i ≡ j → ⊥) → IsGeometry d j i geometry.Later
later_ahead d j i ahead other = (ahead, elim ahead.2 [ inl same ↦ absurd (other same) | inr before ↦ before ])
