-- RFC 4493, passed on from crates/mac/specs.
unfoldable pub use Rattle.mac.specs.Cmac.{double, key1, key2, chain, last_block, mac_block, cmac}
