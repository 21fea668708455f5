mod Bringing
mod Giving
mod InHand
mod Operating
mod Tops
mod Working
