-- The laws that the tests of a swap cite.
--
--   Tests      what the tables have no entry of, and the first of several tests that fails
pub mod Tests
