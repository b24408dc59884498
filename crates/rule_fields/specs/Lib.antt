-- The laws that the reader of the rules' section cites.
--
--   Rules      two risers, a pair, a rule's pairs, all rules
pub mod Rules
