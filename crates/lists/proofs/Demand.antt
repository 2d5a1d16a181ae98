-- Demand 3 holds.
use mathlib.Core.Path.{◌≡◌, refl, sym, ◌∙◌, ap}
use mathlib.Core.Bool.{true}
use mathlib.Core.List.{List}
use Prim.Native.Nat.{ℕ, ◌≤◌}
use lib.ListN.{length, take}
use Rattle.layout.specs.Layout.{Below, is_lanes}
use Rattle.answers.specs.Answers.{over}
use Rattle.answers.specs.declared.Refusal.{Refusal}
use Rattle.answers.specs.Refusals.{accepted}
use Rattle.std.specs.Prelude.{Result, Ok}
use Rattle.layout.proofs.LaneCounts.{lanes_of}
use Rattle.answers.proofs.Answers.{ok_is, answered, overwritten}
use Rattle.answers.proofs.Fronts.{take_over}
use Rattle.modes.specs.declared.Mode.{Mode}
use Rattle.order.specs.Order.{starting, entries_of, values_of}
use Rattle.bodies.specs.List.{IsList}
use Rattle.order.proofs.Steps.{length_entries, length_values, entries_small, values_small, values_entries, entries_values}
use Rattle.order.proofs.Beginnings.{starting_entries, starting_values}
use Rattle.bodies.specs.Body.{block_count, blocks_of, body_of}
use Rattle.bodies.specs.Reading.{entries_from, list_of}
use Rattle.bodies.proofs.Whole.{Written, sound, Had, complete, blocks_enough}
use Rattle.lists.specs.Calls.{write_refusal, write_answer, write_output, read_refusal, read_answer, read_output}
use Rattle.lists.specs.Demand.{Holds, Reads, DemandReads, DemandWrites}
use Rattle.lists.proofs.Accepts.{write_exactly, read_exactly}

module _ (L : ℕ) (m : Mode) (lanes : is_lanes L ≡ true) where
  -- what is accepted is the body of a list of that count: of the one that is read
  pub list_read : (count room : ℕ) (bs : List ℕ) → Below 256 bs → accepted (read_refusal L m count bs room) ≡ true → Holds L m count bs (list_of L m count bs)
  unfolding list_of body_of
  list_read count room bs bytes h =
      let b : ℕ = block_count L count in
      let es : List ℕ = entries_from L count bs b in
      let r = (read_exactly L m count bs room).0 h in
      let w : Written L (starting m) count bs b es = sound b L (starting m) count bs (blocks_enough L count (lanes_of L lanes).0) bytes r.body in
      let size : length (values_of m es) ≡ count = length_values m es ∙ w.size in
      let back : entries_of m (values_of m es) ≡ es = rw (← starting_entries m (values_of m es), ← starting_values m es) (entries_values (starting m) es w.small w.order) in
      record {
        list = record { size = size; few = r.few; small = values_small m es w.small; order = rw (← starting_values m es) w.order };
        body = rw (back, size) w.body;
      }

  -- the body of a list is accepted, and the list is read from it
  module _ {count : ℕ} {bs vs : List ℕ} (h : Holds L m count bs vs) where
    back_again : values_of m (entries_of m vs) ≡ vs
    back_again = rw (← starting_values m (entries_of m vs), ← starting_entries m vs) (values_entries (starting m) vs h.list.small h.list.order)

    had : Had L (starting m) count bs (block_count L count) (entries_of m vs)
    unfolding body_of
    had =
        let es : List ℕ = entries_of m vs in
        let size : length es ≡ count = length_entries m vs ∙ h.list.size in
        let whole : Had L (starting m) (length es) (blocks_of L es (block_count L count)) (block_count L count) es =
        complete (block_count L count) L (starting m) es (rw size (blocks_enough L count (lanes_of L lanes).0)) (entries_small m vs h.list.small)
        (rw (starting_values m es, back_again) h.list.order) in
        let body : bs ≡ blocks_of L es (block_count L count) = h.body ∙ rw h.list.size in
        rw body (rw size at whole)

    pub body_accepted : (room : ℕ) → count ≤ room → accepted (read_refusal L m count bs room) ≡ true
    body_accepted room enough = (read_exactly L m count bs room).1 (record { lanes = lanes; few = h.list.few; enough = enough; body = had.none })

    pub list_back : list_of L m count bs ≡ vs
    unfolding list_of
    list_back = ap (values_of m) had.list ∙ back_again

  -- reading
  reads : (count : ℕ) (bs before : List ℕ) → Below 256 bs → count ≤ length before → Reads L m count bs before (read_answer L m count bs (length before)) (read_output L m count bs before)
  reads count bs before bytes enough =
      let k = read_refusal L m count bs (length before) in
      record {
        exactly = ((λ h. (list_of L m count bs, list_read count (length before) bs bytes (sym (ok_is k count) ∙ h))), λ x. ok_is k count ∙ body_accepted x.1 (length before) enough);
        only = λ vs ws a b. sym (list_back a) ∙ list_back b;
        returns =
            λ vs h.
            let ok = body_accepted h (length before) enough in
            (answered k count ok, overwritten k (list_of L m count bs) before ok ∙ ap (λ (t : List ℕ). over t before) (list_back h));
      }

  -- writing
  pub writes : (count : ℕ) (vs before : List ℕ) → IsList m count vs → length (body_of L m vs) ≤ length before
      → (write_answer L m vs (length before) ≡ Ok (length (body_of L m vs))) × (write_output L m vs before ≡ over (body_of L m vs) before)
  writes count vs before l enough =
      let ok : accepted (write_refusal L m vs (length before)) ≡ true = (write_exactly L m vs (length before)).1 (record { list = record { lanes = lanes; few = rw l.size l.few; order = l.order }; enough = enough }) in
      (answered (write_refusal L m vs (length before)) (length (body_of L m vs)) ok, overwritten (write_refusal L m vs (length before)) (body_of L m vs) before ok)

  -- two lists of one count with one body are equal
  pub one_list : (count : ℕ) (vs ws : List ℕ) → IsList m count vs → IsList m count ws → body_of L m vs ≡ body_of L m ws → vs ≡ ws
  one_list count vs ws a b e = sym (list_back (record { list = a; body = refl })) ∙ list_back (record { list = b; body = e })

  -- reading what was written gives the list back
  pub read_back_lem : (count : ℕ) (vs before out : List ℕ) → IsList m count vs → length (body_of L m vs) ≤ length before → count ≤ length out
      → read_output L m count (take (length (body_of L m vs)) (write_output L m vs before)) out ≡ over vs out
  read_back_lem count vs before out l enough room =
      let wrote : take (length (body_of L m vs)) (write_output L m vs before) ≡ body_of L m vs =
      ap (take (length (body_of L m vs))) (writes count vs before l enough).1 ∙ take_over (length (body_of L m vs)) (body_of L m vs) before refl in
      let h : Holds L m count (body_of L m vs) vs = record { list = l; body = refl } in
      ap (λ (t : List ℕ). read_output L m count t out) wrote
      ∙ overwritten (read_refusal L m count (body_of L m vs) (length out)) (list_of L m count (body_of L m vs)) out (body_accepted h (length out) room) ∙ ap (λ (t : List ℕ). over t out) (list_back h)

-- what the call answers and leaves is as it is demanded
pub demand_reads : (L : ℕ) (m : Mode) (count : ℕ) (bs before : List ℕ) {r : Result ℕ Refusal} {after : List ℕ} → Below 256 bs → r ≡ read_answer L m count bs (length before) → after ≡ read_output L m count bs before
    → DemandReads L m count bs before r after
demand_reads L m count bs before bytes p q lanes enough = rw (p, q) (reads L m lanes count bs before bytes enough)

pub demand_writes : (L : ℕ) (m : Mode) (vs before : List ℕ) {r : Result ℕ Refusal} {after : List ℕ} → r ≡ write_answer L m vs (length before) → after ≡ write_output L m vs before → DemandWrites L m vs before r after
demand_writes L m vs before p q lanes l enough =
    let w = writes L m lanes (length vs) vs before l enough in
    (p ∙ w.0, q ∙ w.1)
