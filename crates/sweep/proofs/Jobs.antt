-- The jobs of a line, as a loop along it in code reads them.
use Rattle.std.specs.Prelude.{◌<◌, ◌≡◌, ◌≤◌}
use Rattle.sweep.specs.Prelude.{Line, Lines, List, Row, ap, arith, get_or, jobs, length, length_lined_le, line, line_below, sym, take, ℕ}

module _ (rows : List Row) {l : Line} (lines : Lines rows l) where
  -- job by job they are the line of the rows
  pub entry_here : (p : ℕ) → get_or (line rows) p 0 ≡ get_or (take l.len l.jobs) p 0
  entry_here p = ap (λ (js : List ℕ). get_or js p 0) (sym lines.list)

  pub entries : length (take l.len l.jobs) ≡ length (line rows)
  entries = ap length lines.list

  module _ (long : length rows ≡ jobs) where
    -- no longer than there are rows
    pub line_fits : l.len ≤ jobs
    line_fits = omega (arith, long, lines.number, length_lined_le rows (length rows))

    -- as many as there are rows, at most
    pub entries_fit : length (take l.len l.jobs) ≤ jobs
    entries_fit = omega (arith, long, entries, length_lined_le rows (length rows))

    -- and each job has a row
    pub entry_below : (p : ℕ) → p < length (take l.len l.jobs) → get_or (take l.len l.jobs) p 0 < jobs
    entry_below p within = rw (← entry_here p) (omega (arith, long, line_below rows p (omega (arith, entries, within))))
