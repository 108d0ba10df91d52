-- What the statement of `mw_session` comes to for undoing: a theorem about any two of its calls. Assumes nothing.
use mathlib.Core.Path.{◌≡◌, sym, ap, ◌∙◌, subst}
use mathlib.Core.List.{List, [], ◌∷◌, ◌++◌}
use Prim.Native.Nat.{ℕ, ◌≤◌}
use lib.ListN.{length, take}
use lib.Seq.{take_at}
use Rattle.model.specs.Refusals.{Answer, answered}
use Rattle.model.specs.Table.{free_rows}
use Rattle.model.specs.Session.{Setup, State, Call, checkpoint, rollback, numbered, state_table, start, step, after, replies}
use Rattle.model.specs.Undo.{NoneGives}
use Rattle.model.proofs.Table.{length_table}
use Rattle.model.proofs.Undo.{back_whole}
use Rattle.board.specs.Board.{setup_as}
use Rattle.replay.specs.Replay.{calls_of, replay_file, start_words, starts_left, free_left, rows_left, Replayed}

-- ---- a call of mw_session that is not refused

module _ {f : List ℕ} {ii h : ℕ} {calls rows replies starts free before rows' replies' starts' free' after' : List ℕ} {r : ℕ}
    (t : Replayed f ii h calls rows replies starts free before r rows' replies' starts' free' after') (e : replay_file f ii h calls (length rows) (length replies) ≡ answered (setup_as f ii h)) where
  -- the state that its calls lead to
  abbrev end : State
  end = after (setup_as f ii h) (calls_of calls) (start (setup_as f ii h))

  -- the rows of the table are that state's
  pub table_left : take ii rows' ≡ state_table (setup_as f ii h) end
  table_left = ap (take ii) (t.rows_are ∙ ap (λ (a : Answer Setup). rows_left (calls_of calls) a rows) e) ∙ take_at (state_table (setup_as f ii h) end) _ ii (length_table 2 ii _)

  -- and so are the starts
  pub starts_left_lem : starts' ≡ start_words end.starts
  starts_left_lem = t.starts_are ∙ ap (λ (a : Answer Setup). starts_left (calls_of calls) a starts) e

  -- and the numbers of free rows
  pub free_left_lem : free' ≡ free_rows ii (state_table (setup_as f ii h) end)
  free_left_lem = t.free_are ∙ ap (λ (a : Answer Setup). free_left (calls_of calls) a free) e

-- ---- undoing

-- two calls of mw_session with one file, interval and horizon, neither refused. The first makes the calls cs and a checkpoint, which answers m; the second makes those, then calls ds, none of which
-- answers m, and rolls back to m, which is open then. Both leave the same starts, the same rows of the table and the same numbers of free rows.
pub undone : {f : List ℕ} {ii h : ℕ}
    {xs ys rows₁ rows₂ replies₁ replies₂ starts₁ starts₂ free₁ free₂ before₁ before₂ rows₁' rows₂' replies₁' replies₂' starts₁' starts₂' free₁' free₂' after₁ after₂ : List ℕ} {r₁ r₂ : ℕ}
    (m : ℕ) (cs ds : List Call) → let u : Setup = setup_as f ii h in
    Replayed f ii h xs rows₁ replies₁ starts₁ free₁ before₁ r₁ rows₁' replies₁' starts₁' free₁' after₁ → replay_file f ii h xs (length rows₁) (length replies₁) ≡ answered u
    → Replayed f ii h ys rows₂ replies₂ starts₂ free₂ before₂ r₂ rows₂' replies₂' starts₂' free₂' after₂ → replay_file f ii h ys (length rows₂) (length replies₂) ≡ answered u
    → calls_of xs ≡ cs ++ (checkpoint ∷ []) → calls_of ys ≡ cs ++ (checkpoint ∷ []) ++ (ds ++ (rollback m ∷ []))
    → (step u checkpoint (after u cs (start u))).1 ≡ answered (numbered m) → NoneGives m (replies u ds (after u (calls_of xs) (start u)))
    → m ≤ length (after u ds (after u (calls_of xs) (start u))).checkpoints → (starts₂' ≡ starts₁') × (take ii rows₂' ≡ take ii rows₁') × (free₂' ≡ free₁')
undone {f} {ii} {h} {xs} m cs ds t₁ e₁ t₂ e₂ p q given still high =
    let u : Setup = setup_as f ii h in
    let same = ap (λ (c : List Call). after u c (start u)) q
    ∙ back_whole u m cs ds (start u) given (subst (λ (c : List Call). NoneGives m (replies u ds (after u c (start u)))) p still)
    (subst (λ (c : List Call). m ≤ length (after u ds (after u c (start u))).checkpoints) p high)
    ∙ ap (λ (c : List Call). after u c (start u)) (sym p) in (
      starts_left_lem t₂ e₂ ∙ ap (λ (st : State). start_words st.starts) same ∙ sym (starts_left_lem t₁ e₁),
      table_left t₂ e₂ ∙ ap (state_table u) same ∙ sym (table_left t₁ e₁),
      free_left_lem t₂ e₂ ∙ ap (λ (st : State). free_rows ii (state_table u st)) same ∙ sym (free_left_lem t₁ e₁),
    )
