-- The steps of a reading.
use Rattle.std.proofs.Common.{◌≡◌, ℕ, suc, ◌+◌, ◌-◌, ◌<◌, ◌≤◌, ◌⊎◌, inl, inr, List, [], ◌∷◌, ◌++◌, length, drop, map, set, get_or}
use Rattle.std.proofs.Common.{Bool, true, false, cond, Some, Result, Ok, Err, slice_get, refl, ap, sym, subst, ◌∙◌, ◌^◌}
use Rattle.std.proofs.Common.{append_assoc, reverse, arith}
use Rattle.std.specs.Int.{w16, to_be_bytes}
use Rattle.std.specs.List.{flat_map}
use Rattle.std.proofs.lemmas.List.{append-nil, drop_all, ext_get_or, get_or-set_other, get_or-set_same, get_or_append_left}
use Rattle.std.proofs.lemmas.List.{get_or_at, length-append, length-map, length-set, map-append, reverse-append, take_at}
use Rattle.std.proofs.lemmas.Nat.{from_be_bytes-to_be_bytes_2}
use Rattle.std.proofs.lemmas.Bool.{cases_eq}
use Rattle.std.proofs.lemmas.Option.{slice_get_within}
use Rattle.ag_grammar.specs.declared.direction.Direction.{Direction}
use Rattle.ag_grammar.specs.declared.grammar.Item.TheVariants as item
use Rattle.ag_grammar.specs.declared.grammar.Item.{Item}
use Rattle.ag_grammar.specs.declared.grammar.Production.{Production}
use Rattle.ag_grammar.specs.declared.grammar.Terminal.{Terminal}
use Rattle.ag_grammar.specs.declared.grammar.Terminal.TheVariants.{Literal, Class}
use Rattle.ag_grammar.specs.declared.limits.TheConstants.{MAX_NODES}
use Rattle.ag_grammar.specs.grammars.Accepted.{IsAccepted}
use Rattle.ag_grammar.specs.grammars.AttributeGrammar.{Grammar, IsProduction, item_at, stored_items}
use Rattle.ag_grammar.specs.grammars.Passes.{IsLegal, Passes, direction_of, nth, other}
use Rattle.ag_grammar.specs.grammars.Solution.{Valuation, children}
use Rattle.ag_grammar.specs.grammars.Tree.{Fits, IsTreeOf, Tree, leaf, node, node_count, node_counts}
use Rattle.treefile.specs.declared.reading.FrameFault.{FrameFault}
use Rattle.treefile.specs.declared.reading.FrameFault.TheVariants.{NotATreeFile}
use Rattle.treefile.specs.records.Orders.{postfix}
use Rattle.treefile.specs.records.Records.{IsFileOfTree, bodies_of}
use Rattle.treefile.specs.records.TreeFile.{frame, version_two}
use Rattle.treefile.specs.framing.Backward.{ReadsBack, before_frame, next_before, pass_in, pass_of}
use Rattle.treefile.specs.framing.Ending.{is_tree_file, version_two_usable}
use Rattle.treefile.proofs.framing.Backward.{pass_of_file}
use Rattle.treefile.proofs.records.Fitting.{fits_version_two, numbered}
use Rattle.treefile.proofs.records.Records.{file_back}
use Rattle.tree_index.specs.Nodes.{AreEnds, IsIndexIn, IsIndexOf, Subtree, back_from, in_order, kids, kind_at, nodes_in, nodes_of}
use Rattle.tree_index.specs.Nodes.{nodes_below, nodes_of_all, record_at, size_at}
use Rattle.tree_index.specs.Reading.{AreEnding, AreOpen, AreSizes, BeginsRecord, IsNextRecord, Family, HasAdded, HasClosed}
use Rattle.tree_index.specs.Reading.{HasComeTo, HasFetched, HasOpened, IsBegun, IsPending, IsOpened, IsOpenNumber, IsSoFar}
use Rattle.tree_index.specs.Reading.{in_four_bytes, nodes_to_come, upcoming}
use Rattle.tree_index.specs.declared.index.NodeKind.TheVariants as kind
use Rattle.tree_index.specs.declared.index.TreeIndex.{TreeIndex}
use Rattle.tree_index.specs.declared.reading.Fetched.{Fetched}
use Rattle.tree_index.specs.declared.reading.OpenRecord.{OpenRecord}
use Rattle.backreader.specs.BackState.{BackState}
use Rattle.tree_index.proofs.Children.{is_there, kid_fits, kids_length, kids_nodes, nodes_length, nodes_length_all}
use Rattle.tree_index.proofs.Children.{order_length, ordered_at, records_of_nodes}

-- an open node of which one child more was visited
abbrev pub moved : OpenRecord → OpenRecord
moved o = record o { visited = o.visited + 1 }

-- one more record ends at an offset
ends_more : (content : List ℕ) (ends : List ℕ) (bodies : List (List ℕ)) (end : ℕ) (body : List ℕ) → AreEnds content ends bodies
    → end ≤ length content → next_before version_two content end ≡ Ok (Some body)
    → AreEnds content (ends ++ end ∷ []) (bodies ++ body ∷ [])
ends_more content [] [] end body a within e = (within, e, tt)
ends_more content (x ∷ ends) (b ∷ bodies) end body a within e =
    (a.0, a.1, ends_more content ends bodies end body a.2 within e)
ends_more content _ _ end body a within e = elim a [ ]

ends_length : (content : List ℕ) (ends : List ℕ) (bodies : List (List ℕ)) → AreEnds content ends bodies
    → length ends ≡ length bodies
ends_length content [] [] a = refl
ends_length content (x ∷ ends) (b ∷ bodies) a = ap suc (ends_length content ends bodies a.2)
ends_length content _ _ a = elim a [ ]

-- the sizes with one more: it is that of the node that comes next, or any number if this node is open
sizes_more : (all so_far : List ℕ) (s : ℕ) (os : List OpenRecord) → AreSizes all so_far os
    → (get_or all (length so_far) 0 ≡ s) ⊎ IsOpenNumber (length so_far) os → AreSizes all (so_far ++ s ∷ []) os
sizes_more all so_far s os sizes last i less = elim (cases_eq i (length so_far)) [
  | inl same ↦ elim last [
    | inl is ↦ inl (cc (get_or_at so_far s [] 0 (length so_far) refl))
    | inr b ↦ inr (rw same b)
  ]
  | inr other ↦ (let within : i < length so_far = omega (arith, length-append so_far (s ∷ [])) in
      elim (sizes i within) [
        | inl e ↦ inl (cc (get_or_append_left so_far (s ∷ []) 0 i within))
        | inr b ↦ inr b
      ])
]

-- a node is closed: it gets its size
sizes_closed : (all so_far : List ℕ) (o : OpenRecord) (os : List OpenRecord) (s : ℕ) → get_or all o.number 0 ≡ s
    → AreSizes all so_far (o ∷ os) → AreSizes all (set so_far o.number s) os
sizes_closed all so_far o os s is sizes i less =
    let within : i < length so_far = omega (arith, length-set so_far o.number s) in
    elim (cases_eq i o.number) [
      | inl same ↦ inl (cc (get_or-set_same so_far o.number s 0 (omega arith)))
      | inr other ↦ elim (sizes i within) [
        | inl e ↦ inl (cc (get_or-set_other so_far o.number i s 0 other))
        | inr b ↦ elim b [ inl a ↦ absurd (other a) | inr c ↦ inr c ]
      ]
    ]

-- the size of the node that comes next
size_next : (nodes read pending : List Subtree) (s : Subtree) → nodes ≡ read ++ s ∷ pending
    → get_or (map size_at nodes) (length read) 0 ≡ size_at s
size_next nodes read pending s all =
    cc (
      map-append size_at read (s ∷ pending),
      get_or_at (map size_at read) (size_at s) (map size_at pending) 0 (length read) (length-map read size_at),
    )

-- two numbers of two bytes at the beginning of equal bytes are equal
numbered_apart : (p r : ℕ) (xs ys : List ℕ) → p < 2 ^ 16 → r < 2 ^ 16 → to_be_bytes w16 p ++ xs ≡ to_be_bytes w16 r ++ ys → p ≡ r
numbered_apart p r xs ys a b e =
    cc (
      from_be_bytes-to_be_bytes_2 p a,
      take_at (to_be_bytes w16 p) xs 2 refl,
      take_at (to_be_bytes w16 r) ys 2 refl,
      from_be_bytes-to_be_bytes_2 r b,
    )

module _ (g : Grammar) (m : Passes) (k : ℕ) (t : Tree) (v : Valuation) (content : List ℕ) where
  abbrev D : Direction
  D = back_from k

  abbrev sizes_of : List ℕ
  sizes_of = map size_at (nodes_of D t v)

  abbrev R : Subtree → List ℕ
  R = record_at g m k

  -- a node more is in the index
  begun_more : {records : ℕ} {os now : List OpenRecord} {index new : TreeIndex} {s : Subtree} {pending : List Subtree} {end : ℕ}
      → IsBegun g m k t v content records os index (s ∷ pending) → HasAdded end (kind_at s) index new
      → end ≤ length content → next_before version_two content end ≡ Ok (Some (R s)) → records < MAX_NODES
      → AreSizes sizes_of (index.sizes.items ++ 1 ∷ []) now → IsBegun g m k t v content (records + 1) now new pending
  begun_more {index = index} {s = s} {pending = pending} {end = end} b added within found less sizes =
      let in_read = length-append b.read (s ∷ []) in
      record {
        read = b.read ++ s ∷ [];
        all = cc (append_assoc b.read (s ∷ []) pending);
        pass = cc;
        ends = rw (added.ends, map-append) (ends_more content index.ends.items (map R b.read) end (R s) b.ends within
            found);
        kinds = cc (map-append kind_at b.read (s ∷ []));
        long = omega (arith, length-append index.sizes.items (1 ∷ []), ap length added.sizes);
        sizes = rw added.sizes sizes;
        counted = omega arith;
        few = omega arith;
      }

  module _ {at records number : ℕ} {os : List OpenRecord} {index new : TreeIndex} {body : List ℕ}
      (within : at ≤ length content) (found : next_before version_two content at ≡ Ok (Some body))
      (less : records < MAX_NODES) where
    -- the record of a token was read
    token_at : (a : Terminal) (tree : Tree) (w : Valuation) (fs : List Family) → BeginsRecord g (item.Terminal a) body number
        → HasAdded at (kind.Token number) index new → Fits g (item.Terminal a) tree → AreOpen g os fs
        → IsBegun g m k t v content records os index (nodes_of D tree w ++ nodes_to_come D os fs)
        → AreEnding D sizes_of (records + node_count tree) os fs
        → ReadsBack version_two content at (map R (nodes_of D tree w ++ nodes_to_come D os fs))
        → IsSoFar g m k t v content (before_frame at body) (records + 1) os new
    token_at (Literal l) (leaf c x) w fs begins added fits fit b ending left = elim fits [ ]
    token_at a (node p ts) w fs begins added fits fit b ending left = elim fits [ ]
    token_at (Class c) (leaf d x) w fs begins added fits fit b ending left =
        let s : Subtree = record { tree = leaf d x; values = w } in
        let same : R s ≡ body = cc left.0 in
        let class : number ≡ d = cc (begins.1, fits.0) in
        let size = size_next (nodes_of D t v) b.read (nodes_to_come D os fs) s b.all in
        record {
          families = fs;
          fit = fit;
          begun =
              begun_more b (rw class at added) within left.0 less
              (sizes_more sizes_of index.sizes.items 1 os b.sizes (inl (cc size)));
          ending = ending;
          left = rw (← same) left.1;
        }

    pub token : {a : Terminal} → BeginsRecord g (item.Terminal a) body number → HasAdded at (kind.Token number) index new
        → IsPending g m k t v content at records (item.Terminal a) os index
        → IsSoFar g m k t v content (before_frame at body) (records + 1) os new
    token {a} begins added c = token_at a c.tree c.values c.families begins added c.fits c.fit c.begun c.ending c.left

    -- the record of a node was read
    enter_at : (symbol : ℕ) (o : OpenRecord) (tree : Tree) (w : Valuation) (fs : List Family)
        → BeginsRecord g (item.Symbol symbol) body number → HasAdded at (kind.Node number) index new
        → IsOpened g index number o → Fits g (item.Symbol symbol) tree → AreOpen g os fs
        → IsBegun g m k t v content records os index (nodes_of D tree w ++ nodes_to_come D os fs)
        → AreEnding D sizes_of (records + node_count tree) os fs
        → ReadsBack version_two content at (map R (nodes_of D tree w ++ nodes_to_come D os fs))
        → IsSoFar g m k t v content (before_frame at body) (records + 1) (o ∷ os) new
    enter_at symbol o (leaf c x) w fs begins added opened fits fit b ending left = elim fits [ ]
    enter_at symbol o (node r ts) w fs begins added opened fits fit b ending left =
        let s : Subtree = record { tree = node r ts; values = w } in
        let f : Family = record { trees = ts; values = children w } in
        let few = numbered g opened.accepted in
        let small_p = slice_get_within g.productions number begins.0 begins.2 in
        let small_r = slice_get_within g.productions r fits.0 fits.1 in
        let same : body ≡ R s = cc left.0 in
        let production : number ≡ r =
        numbered_apart number r begins.1 _ (omega arith) (omega arith) (ap (drop 1) (sym begins.3 ∙ same)) in
        let below : nodes_in D (upcoming D o f) ≡ nodes_of_all D ts (children w) =
        rw opened.visited (kids_nodes D ts (children w)) in
        let below_long : length (nodes_in D (upcoming D o f)) ≡ node_counts ts =
        ap length below ∙ nodes_length_all D ts (children w) in
        let entries = ends_length content index.ends.items (map R b.read) b.ends in
        let number_is : o.number ≡ length b.read = omega (arith, opened.number, length-map b.read R) in
        let size : get_or sizes_of o.number 0 ≡ node_count (node r ts) =
        cc (size_next (nodes_of D t v) b.read (nodes_of_all D ts (children w) ++ nodes_to_come D os fs) s b.all) in
        let last : length index.sizes.items ≡ o.number = omega (arith, b.long) in
        let sizes_open : AreSizes sizes_of index.sizes.items (o ∷ os) = λ i less.
        elim (b.sizes i less) [ inl e ↦ inl e | inr e ↦ inr (inr e) ] in
        record {
          families = f ∷ fs;
          fit = (fits.0, cc fits.1, fits.3, opened.children fits.0 (cc fits.1), fit);
          begun =
              rw below (begun_more b (rw production at added) within left.0 less
              (sizes_more sizes_of index.sizes.items 1 (o ∷ os) sizes_open (inr (inl last))));
          ending = (omega arith, omega arith, subst (λ n. AreEnding D sizes_of n os fs) (omega arith) ending);
          left = rw (same, below) left.1;
        }

    pub enter : {symbol : ℕ} {o : OpenRecord} → BeginsRecord g (item.Symbol symbol) body number
        → HasAdded at (kind.Node number) index new → IsOpened g index number o
        → IsPending g m k t v content at records (item.Symbol symbol) os index
        → IsSoFar g m k t v content (before_frame at body) (records + 1) (o ∷ os) new
    enter {symbol} {o} begins added opened c =
        enter_at symbol o c.tree c.values c.families begins added opened c.fits c.fit c.begun c.ending c.left

  module _ {at records : ℕ} {o : OpenRecord} {os : List OpenRecord} {index : TreeIndex} where
    -- the next child of an open node comes
    visit_at : (x : Item) (fs : List Family) → o.visited < o.children → ((q : Production) → IsProduction g o.production q
        → slice_get (stored_items q.items) (nth D o.children o.visited) ≡ Some x) → AreOpen g (o ∷ os) fs
        → IsBegun g m k t v content records (o ∷ os) index (nodes_to_come D (o ∷ os) fs)
        → AreEnding D sizes_of records (o ∷ os) fs → ReadsBack version_two content at (map R (nodes_to_come D (o ∷ os) fs))
        → IsPending g m k t v content at records x (moved o ∷ os) index
    visit_at x [] less is fit b ending left = elim fit [ ]
    visit_at x (f ∷ fs) less is fit b ending left =
        let ks = kids f.trees f.values in
        let items = stored_items fit.0.items in
        let long : length ks ≡ o.children = omega (arith, kids_length g items f.trees f.values fit.2, fit.3) in
        let found = is_there (in_order D ks) o.visited (omega (arith, order_length D ks)) in
        let kid = found.0 in
        let others = nodes_in D (upcoming D (moved o) f) in
        let rest = nodes_to_come D os fs in
        let nodes_are : nodes_in D (upcoming D o f) ≡ nodes_below D kid ++ others = ap (nodes_in D) found.2 in
        let pending : nodes_in D (upcoming D o f) ++ rest ≡ nodes_below D kid ++ (others ++ rest) =
        cc (append_assoc (nodes_below D kid) others rest) in
        let count : length (nodes_in D (upcoming D o f)) ≡ node_count kid.tree + length others =
        omega (arith, ap length nodes_are, length-append (nodes_below D kid) others, nodes_length D kid.tree kid.values) in
        let ends = ending.0 in
        let before = ending.1 in
        record {
          tree = kid.tree;
          values = kid.values;
          fits =
              kid_fits g items f.trees f.values (nth D o.children o.visited) kid x fit.2
              (ap (λ n. slice_get ks (nth D n o.visited)) (sym long) ∙ ordered_at D ks o.visited kid found.1) (is fit.0 fit.1);
          families = f ∷ fs;
          fit = fit;
          begun = record {
            read = b.read;
            all = rw pending at b.all;
            pass = b.pass;
            ends = b.ends;
            kinds = b.kinds;
            long = b.long;
            sizes = b.sizes;
            counted = b.counted;
            few = b.few;
          };
          ending = (omega arith, omega arith, subst (λ n. AreEnding D sizes_of n os fs) (omega arith) ending.2);
          left = rw pending at left;
        }

    pub visit : {x : Item} → o.visited < o.children → ((q : Production) → IsProduction g o.production q
        → slice_get (stored_items q.items) (nth D o.children o.visited) ≡ Some x)
        → IsSoFar g m k t v content at records (o ∷ os) index → IsPending g m k t v content at records x (moved o ∷ os) index
    visit {x} less is s = visit_at x s.families less is s.fit s.begun s.ending s.left

    -- an open node without children to come is closed
    leave_at : (new : TreeIndex) (fs : List Family) → o.children ≤ o.visited → HasClosed o.number index new
        → AreOpen g (o ∷ os) fs → IsBegun g m k t v content records (o ∷ os) index (nodes_to_come D (o ∷ os) fs)
        → AreEnding D sizes_of records (o ∷ os) fs → ReadsBack version_two content at (map R (nodes_to_come D (o ∷ os) fs))
        → IsSoFar g m k t v content at records os new
    leave_at new [] done closed fit b ending left = elim fit [ ]
    leave_at new (f ∷ fs) done closed fit b ending left =
        let ks = kids f.trees f.values in
        let long : length ks ≡ o.children =
        omega (arith, kids_length g (stored_items fit.0.items) f.trees f.values fit.2, fit.3) in
        let nothing : upcoming D o f ≡ [] = drop_all o.visited (in_order D ks) (omega (arith, order_length D ks)) in
        let below : nodes_in D (upcoming D o f) ≡ [] = ap (nodes_in D) nothing in
        let none_below = ap length below in
        let size : get_or sizes_of o.number 0 ≡ in_four_bytes (length index.sizes.items - o.number) =
        omega (arith, ending.0, ending.1) in
        record {
          families = fs;
          fit = fit.4;
          begun = record {
            read = b.read;
            all = rw below at b.all;
            pass = cc;
            ends = rw closed.ends b.ends;
            kinds = cc;
            long = cc (length-set index.sizes.items o.number (in_four_bytes (length index.sizes.items - o.number)));
            sizes =
                rw closed.sizes (sizes_closed sizes_of index.sizes.items o os
                (in_four_bytes (length index.sizes.items - o.number)) size b.sizes);
            counted = b.counted;
            few = b.few;
          };
          ending = subst (λ n. AreEnding D sizes_of n os fs) (omega arith) ending.2;
          left = rw below at left;
        }

    pub leave : {new : TreeIndex} → o.children ≤ o.visited → HasClosed o.number index new
        → IsSoFar g m k t v content at records (o ∷ os) index → IsSoFar g m k t v content at records os new
    leave {new} done closed s = leave_at new s.families done closed s.fit s.begun s.ending s.left

  -- nothing is open: the index is that of the tree
  pub end : {at records : ℕ} {index : TreeIndex} → IsSoFar g m k t v content at records [] index
      → IsIndexOf g m k t v content index
  end {index = index} s =
      let b = s.begun in
      let all : nodes_of D t v ≡ b.read = rw append-nil at b.all in
      record {
        nodes = record {
          pass = b.pass;
          kinds = cc;
          sizes =
              ext_get_or 0 index.sizes.items sizes_of (cc (length-map (nodes_of D t v) size_at))
              (λ i less. elim (b.sizes i less) [ inl e ↦ e | inr e ↦ absurd e ]);
        };
        ends = rw all b.ends;
      }

  -- the root comes first
  pub begin : {at : ℕ} {index : TreeIndex} → IsAccepted g → IsLegal g m → IsTreeOf g t
      → IsFileOfTree version_two g m k t v content → at ≡ length content → index.pass ≡ k → index.ends.items ≡ []
      → index.kinds.items ≡ [] → index.sizes.items ≡ [] → IsPending g m k t v content at 0 (item.Symbol g.start) [] index
  begin accepted legal tree is end pass ends kinds sizes = record {
    tree = t;
    values = v;
    fits = tree;
    families = [];
    fit = tt;
    begun = record {
      read = [];
      all = sym (append-nil (nodes_of D t v));
      pass = pass;
      ends = rw ends tt;
      kinds = kinds;
      long = ap length sizes;
      sizes = λ i less. absurd (omega (arith, ap length sizes));
      counted = refl;
      few = omega arith;
    };
    ending = tt;
    left =
        rw (end, append-nil, records_of_nodes g m k D t v)
        (file_back version_two g m k t v content (fits_version_two g m accepted legal).1 tree is version_two_usable);
  }

-- a record was read, of an item
pub reads : (g : Grammar) (content : List ℕ) (honest : Bool) (old new : BackState) (x : Item) (fetched : Fetched)
    (before now : List OpenRecord) (index_old index_new : TreeIndex) → HasFetched g honest content x old new fetched
    → HasOpened g fetched.item fetched.end fetched.number index_old index_new before now → honest ≡ true
    → old.progress.at ≤ length content → IsNextRecord g content old x (reverse before) index_old
    → HasComeTo g content new (reverse now) index_new
reads g content honest old new (item.Terminal a) fetched before now index_old index_new f opened is within next m k t v small
    legal tree file =
    let o = rw (f.end, f.item) at opened in
    rw (f.now, f.counted, o.1)
    (token g m k t v content within (f.found is) f.few f.begins o.0 (next m k t v small legal tree file))
reads g content honest old new (item.Symbol s) fetched before now index_old index_new f opened is within next m k t v small
    legal tree file =
    let o = rw (f.end, f.item) at opened in
    rw (f.now, f.counted, o.3, reverse-append)
    (enter g m k t v content within (f.found is) f.few f.begins o.1 o.2 (next m k t v small legal tree file))

-- the number of the pass in the header
pass_is : (content : List ℕ) (pass : ℕ) (b : Bool) → ◌≡◌ {A = Result ℕ FrameFault}
    (cond b (Ok (pass_of content)) (Err NotATreeFile)) (Ok pass) → pass_of content ≡ pass
pass_is content pass true e = cc
pass_is content pass false e = cc

-- at the end of a file the root comes next
pub begins_reading : (g : Grammar) (content : List ℕ) (back : BackState) (start : ℕ) (os : List OpenRecord) (index : TreeIndex)
    → IsAccepted g → back.progress.at ≡ length content → back.progress.records ≡ 0
    → pass_in version_two content ≡ Ok back.progress.pass → start ≡ g.start → os ≡ [] → index.pass ≡ back.progress.pass
    → index.ends.items ≡ [] → index.kinds.items ≡ [] → index.sizes.items ≡ []
    → IsNextRecord g content back (item.Symbol start) os index
begins_reading g content back start os index accepted end fresh exact symbol nothing pass ends kinds sizes m k t v small legal
    tree file =
    let same : back.progress.pass ≡ k =
    cc (
      pass_is content back.progress.pass (is_tree_file version_two content) exact,
      ap pass_of file.occurs,
      pass_of_file version_two k (flat_map frame (postfix (direction_of k) (bodies_of version_two g m k t v))) version_two_usable
          small,
    ) in
    rw (fresh, symbol, nothing) (begin g m k t v content accepted legal tree file end (pass ∙ same) ends kinds sizes)

-- the next child comes, in the direction of the pass
pub visits : (g : Grammar) (content : List ℕ) (back : BackState) (pass : ℕ) (o : OpenRecord) (os : List OpenRecord) (x : Item)
    (index : TreeIndex) → index.pass ≡ pass → o.visited < o.children
    → ((q : Production) → IsProduction g o.production q → slice_get (stored_items q.items)
    (nth (back_from pass) o.children o.visited) ≡ Some x) → HasComeTo g content back (o ∷ os) index
    → IsNextRecord g content back x (moved o ∷ os) index
visits g content back pass o os x index of_pass less is come m k t v small legal tree file =
    let so_far = come m k t v small legal tree file in
    let same : pass ≡ k = cc so_far.begun.pass in
    visit g m k t v content less (rw same at is) so_far

-- an open node is closed
pub leaves : (g : Grammar) (content : List ℕ) (old new : BackState) (o : OpenRecord) (os now : List OpenRecord)
    (index_old index_new : TreeIndex) → new ≡ old → now ≡ os → o.children ≤ o.visited → HasClosed o.number index_old index_new
    → HasComeTo g content old (o ∷ os) index_old → HasComeTo g content new now index_new
leaves g content old new o os now index_old index_new same nodes done closed come m k t v small legal tree file =
    rw (same, nodes) (leave g m k t v content done closed (come m k t v small legal tree file))

-- all was read
pub ends_reading : (g : Grammar) (content : List ℕ) (back : BackState) (os : List OpenRecord) (index : TreeIndex) → os ≡ []
    → HasComeTo g content back os index → IsIndexIn g content index
ends_reading g content back os index nothing come m k t v small legal tree file =
    end g m k t v content (rw nothing at (come m k t v small legal tree file))

-- the item of the child that is visited next
pub next_item : (g : Grammar) (p : ℕ) (q r : Production) (d : Direction) (n i place index : ℕ) (x : Item) → IsProduction g p q
    → IsProduction g p r → nth d n i ≡ index → place ≡ suc index → item_at r place ≡ Some x
    → slice_get (stored_items q.items) (nth d n i) ≡ Some x
next_item g p q r d n i place index x is also turn counted there =
    let same : q ≡ r = cc in
    rw (same, turn) (rw counted at there)
