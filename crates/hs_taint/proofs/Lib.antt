mod Owners
