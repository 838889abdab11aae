use Rattle.std.proofs.Common.{codes, ap, sym}
use Rattle.clap.specs.Words.{Text, first_of, found_of, rows_of}
use Rattle.lst_layout.specs.declared.limits.Limits.{Limits}
use Rattle.lst_options.proofs.GivenLimits.{if_none, gives_none, with_default, index_none}
use Rattle.lst_options.proofs.limits.limits_in.Goals as goal

pub returns-in_err-columns-clause-some : goal.returns-in_err-columns-clause-some
returns-in_err-columns-clause-some c = if_none _ _ _ c.from_residual.ensures

pub returns-in_err-columns-clause-none : goal.returns-in_err-columns-clause-none
returns-in_err-columns-clause-none c = λ _ limits gives. gives_none _ limits.columns (with_default _ _ 1 8 (first_of (codes "columns") (rows_of (found_of c.args.matches.now))) _ (ap (λ (l : Limits). l.columns) c.default-default.ensures) c.in_err-columns.ensures.number) gives.columns

pub returns-in_err-columns-clause-valid : goal.returns-in_err-columns-clause-valid
returns-in_err-columns-clause-valid c = if_none _ _ _ c.from_residual.ensures

pub returns-in_err-ranges-clause-some : goal.returns-in_err-ranges-clause-some
returns-in_err-ranges-clause-some c = if_none _ _ _ c.from_residual-in_err-ranges.ensures

pub returns-in_err-ranges-clause-none : goal.returns-in_err-ranges-clause-none
returns-in_err-ranges-clause-none c = λ _ limits gives. gives_none _ limits.ranges (with_default _ _ 1 64 (first_of (codes "ranges") (rows_of (found_of c.args.matches.now))) _ (ap (λ (l : Limits). l.ranges) c.default-default.ensures) c.in_err-ranges.ensures.number) gives.ranges

pub returns-in_err-ranges-clause-valid : goal.returns-in_err-ranges-clause-valid
returns-in_err-ranges-clause-valid c = if_none _ _ _ c.from_residual-in_err-ranges.ensures

pub returns-in_err-tails-clause-some : goal.returns-in_err-tails-clause-some
returns-in_err-tails-clause-some c = if_none _ _ _ c.from_residual-in_err-tails.ensures

pub returns-in_err-tails-clause-none : goal.returns-in_err-tails-clause-none
returns-in_err-tails-clause-none c = λ _ limits gives. gives_none _ limits.tails (with_default _ _ 1 16384 (first_of (codes "tails") (rows_of (found_of c.args.matches.now))) _ (ap (λ (l : Limits). l.tails) c.default-default.ensures) c.in_err-tails.ensures.number) gives.tails

pub returns-in_err-tails-clause-valid : goal.returns-in_err-tails-clause-valid
returns-in_err-tails-clause-valid c = if_none _ _ _ c.from_residual-in_err-tails.ensures

pub returns-in_err-sessions-clause-some : goal.returns-in_err-sessions-clause-some
returns-in_err-sessions-clause-some c = if_none _ _ _ c.from_residual-in_err-sessions.ensures

pub returns-in_err-sessions-clause-none : goal.returns-in_err-sessions-clause-none
returns-in_err-sessions-clause-none c = λ _ limits gives. gives_none _ limits.sessions (with_default _ _ 1 16 (first_of (codes "sessions") (rows_of (found_of c.args.matches.now))) _ (ap (λ (l : Limits). l.sessions) c.default-default.ensures) c.in_err-sessions.ensures.number) gives.sessions

pub returns-in_err-sessions-clause-valid : goal.returns-in_err-sessions-clause-valid
returns-in_err-sessions-clause-valid c = if_none _ _ _ c.from_residual-in_err-sessions.ensures

pub returns-in_err-txns-clause-some : goal.returns-in_err-txns-clause-some
returns-in_err-txns-clause-some c = if_none _ _ _ c.from_residual-in_err-txns.ensures

pub returns-in_err-txns-clause-none : goal.returns-in_err-txns-clause-none
returns-in_err-txns-clause-none c = λ _ limits gives. gives_none _ limits.txns (with_default _ _ 1 65535 (first_of (codes "txns") (rows_of (found_of c.args.matches.now))) _ (ap (λ (l : Limits). l.txns) c.default-default.ensures) c.in_err-txns.ensures.number) gives.txns

pub returns-in_err-txns-clause-valid : goal.returns-in_err-txns-clause-valid
returns-in_err-txns-clause-valid c = if_none _ _ _ c.from_residual-in_err-txns.ensures

pub returns-in_err-spare-clause-some : goal.returns-in_err-spare-clause-some
returns-in_err-spare-clause-some c = if_none _ _ _ c.from_residual-in_err-spare.ensures

pub returns-in_err-spare-clause-none : goal.returns-in_err-spare-clause-none
returns-in_err-spare-clause-none c = λ _ limits gives. gives_none _ limits.spare (with_default _ _ 1 64 (first_of (codes "spare") (rows_of (found_of c.args.matches.now))) _ (ap (λ (l : Limits). l.spare) c.default-default.ensures) c.in_err-spare.ensures.number) gives.spare

pub returns-in_err-spare-clause-valid : goal.returns-in_err-spare-clause-valid
returns-in_err-spare-clause-valid c = if_none _ _ _ c.from_residual-in_err-spare.ensures

pub returns-in_err-indexed-clause-some : goal.returns-in_err-indexed-clause-some
returns-in_err-indexed-clause-some c = if_none _ _ _ c.from_residual-in_err-indexed.ensures

pub returns-in_err-indexed-clause-none : goal.returns-in_err-indexed-clause-none
returns-in_err-indexed-clause-none c = λ _ limits gives. index_none (λ (name : Text). first_of name (rows_of (found_of c.args.matches.now))) c.in_ok-columns.columns limits (with_default _ _ 1 8 (first_of (codes "columns") (rows_of (found_of c.args.matches.now))) _ (ap (λ (l : Limits). l.columns) c.default-default.ensures) c.in_ok-columns.ensures.number) c.in_err-indexed.ensures.bits gives

pub returns-in_err-indexed-clause-valid : goal.returns-in_err-indexed-clause-valid
returns-in_err-indexed-clause-valid c = if_none _ _ _ c.from_residual-in_err-indexed.ensures

pub returns-clause-some : goal.returns-clause-some
returns-clause-some c = record {
  columns = sym (with_default _ _ 1 8 (first_of (codes "columns") (rows_of (found_of c.args.matches.now))) _ (ap (λ (l : Limits). l.columns) c.default-default.ensures) c.in_ok-columns.ensures.number);
  ranges = sym (with_default _ _ 1 64 (first_of (codes "ranges") (rows_of (found_of c.args.matches.now))) _ (ap (λ (l : Limits). l.ranges) c.default-default.ensures) c.in_ok-ranges.ensures.number);
  tails = sym (with_default _ _ 1 16384 (first_of (codes "tails") (rows_of (found_of c.args.matches.now))) _ (ap (λ (l : Limits). l.tails) c.default-default.ensures) c.in_ok-tails.ensures.number);
  sessions = sym (with_default _ _ 1 16 (first_of (codes "sessions") (rows_of (found_of c.args.matches.now))) _ (ap (λ (l : Limits). l.sessions) c.default-default.ensures) c.in_ok-sessions.ensures.number);
  txns = sym (with_default _ _ 1 65535 (first_of (codes "txns") (rows_of (found_of c.args.matches.now))) _ (ap (λ (l : Limits). l.txns) c.default-default.ensures) c.in_ok-txns.ensures.number);
  spare = sym (with_default _ _ 1 64 (first_of (codes "spare") (rows_of (found_of c.args.matches.now))) _ (ap (λ (l : Limits). l.spare) c.default-default.ensures) c.in_ok-spare.ensures.number);
  indexed = sym c.in_ok-indexed.ensures.bits;
}

pub returns-clause-none : goal.returns-clause-none
returns-clause-none c = λ same. absurd cc

pub returns-clause-valid : goal.returns-clause-valid
returns-clause-valid c = record {
  columns = c.in_ok-columns.ensures.range;
  ranges = c.in_ok-ranges.ensures.range;
  tails = c.in_ok-tails.ensures.range;
  sessions = c.in_ok-sessions.ensures.range;
  txns = c.in_ok-txns.ensures.range;
  spare = c.in_ok-spare.ensures.range;
  indexed = c.in_ok-indexed.ensures.below;
}
